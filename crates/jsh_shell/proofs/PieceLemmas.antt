-- How the lines of a piece of input are served.
use Rattle.std.proofs.Common.{◌≡◌, ℕ, ◌+◌, ◌==◌, ◌||◌, Bool, true, false, List, [], ◌∷◌, ◌++◌, map, Option, None, Some, MatchOption, take, drop, refl, ap, sym, subst, ◌∙◌, append_assoc, append-nil}
use Rattle.std.proofs.lemmas.List.{drop-drop}
use Rattle.jsh_lines.specs.Lines.{Cut, IsFirstLineFeed, as_text, cut, has_line_feed}
use Rattle.jsh_lines.proofs.Cuts.{cut-line, cut-no_line, has_line_feed-uncut}
use Rattle.jsh_cut.specs.declared.command.Command.{Command}
use Rattle.jsh_cut.specs.declared.held.Held.{Held}
use Rattle.jsh_cut.specs.Commands.{Gives, cut_line, cut_lines, onward, with_commands}
use Rattle.jsh_shell.specs.Cutting.{ServesCut, piece_gives}
use Rattle.jsh_shell.specs.declared.halts.Halt.{Halt}
use Rattle.jsh_shell.specs.declared.halts.Halt.TheVariants as halt
use Rattle.jsh_shell.specs.declared.lines.Behind.{Behind}
use Rattle.jsh_shell.specs.declared.session.Session.{Session}
use Rattle.jsh_shell.specs.Progress.Phase.{Between}
use Rattle.jsh_shell.specs.Serving.{Serves, ServesPart}
use Rattle.jsh_shell.proofs.Onward.{with_both, onward_on, onward_out, onward_front}
use Rattle.jsh_shell.proofs.ServeLemmas.{serves-nothing, serves-append, serves-part-append, serves-part-more, part-for-memory}

-- Of what these bytes give behind a text, some commands were served, and these bytes are left behind another text.
pub record IsAlong (budget client : ℕ) (first now : Session) (x y : Option (List ℕ)) (before held : Held) (bytes left : List ℕ) : Type 0 where
  pub served : List Command
  pub serves : Serves budget client Between Between first now x y served
  pub gives : piece_gives before bytes ≡ with_commands served (piece_gives held left)
  pub rest : (cut bytes).rest ≡ (cut left).rest

pub along-start : (budget client : ℕ) (h : Session) (x : Option (List ℕ)) (before : Held) (bytes : List ℕ) → IsAlong budget client h h x x before before bytes bytes
along-start budget client h x before bytes = record { served = []; serves = serves-nothing budget client Between h x; gives = refl; rest = refl }

or_cases : (t rest more : Bool) → (rest ≡ false → more ≡ false) → (t || rest) ≡ false → (t || more) ≡ false
or_cases true rest more along e = cc
or_cases false rest more along e = along e

no_feed-append : (a b : List ℕ) → has_line_feed a ≡ false → has_line_feed b ≡ false → has_line_feed (a ++ b) ≡ false
no_feed-append [] b x y = y
no_feed-append (v ∷ a) b x y = or_cases (v == 10) (has_line_feed a) (has_line_feed (a ++ b)) (λ none. no_feed-append a b none y) x

-- the first line of what was begun and the rest of a piece
cut-begun : (begun rest : List ℕ) (at : ℕ) → (cut begun).rest ≡ begun → IsFirstLineFeed rest at →
    cut (begun ++ rest) ≡ record { whole = (begun ++ take at rest) ∷ (cut (drop (at + 1) rest)).whole; rest = (cut (drop (at + 1) rest)).rest }
cut-begun begun rest at uncut feed =
    ap (λ (r : List ℕ). cut (begun ++ r)) feed.2 ∙ ap cut (sym (append_assoc begun (take at rest) (10 ∷ drop (at + 1) rest)))
    ∙ cut-line (begun ++ take at rest) (drop (at + 1) rest) (no_feed-append begun (take at rest) (has_line_feed-uncut begun uncut) feed.1)

line_first : (held : Held) (begun rest : List ℕ) (at : ℕ) → (cut begun).rest ≡ begun → IsFirstLineFeed rest at →
    piece_gives held (begun ++ rest) ≡ onward (cut_line held (as_text (begun ++ take at rest))) (λ h. piece_gives h (drop (at + 1) rest))
line_first held begun rest at uncut feed = ap (λ (c : Cut). gives_of c) (cut-begun begun rest at uncut feed)
  where
    gives_of : Cut → Gives
    gives_of c = cut_lines held (map as_text c.whole)

-- what all the bytes give, with the first line that is left
all_gives : (budget client : ℕ) (a b : Session) (x y : Option (List ℕ)) (before held : Held) (bytes begun rest : List ℕ) (at : ℕ) →
    (along : IsAlong budget client a b x y before held bytes (begun ++ rest)) → (cut begun).rest ≡ begun → IsFirstLineFeed rest at →
    piece_gives before bytes ≡ with_commands along.served (onward (cut_line held (as_text (begun ++ take at rest))) (λ h. piece_gives h (drop (at + 1) rest)))
all_gives budget client a b x y before held bytes begun rest at along uncut feed =
    along.gives ∙ ap (with_commands along.served) (line_first held begun rest at uncut feed)

-- a line more was served
pub along-line : (budget client : ℕ) (a b c : Session) (x y z : Option (List ℕ)) (before held : Held) (behind : Behind) (bytes begun rest : List ℕ) (at : ℕ) →
    IsAlong budget client a b x y before held bytes (begun ++ rest) → (cut begun).rest ≡ begun → IsFirstLineFeed rest at →
    ServesCut budget client b c y z (cut_line held (as_text (begun ++ take at rest))) behind → behind.exits ≡ false →
    IsAlong budget client a c x z before behind.held bytes (drop (at + 1) rest)
along-line budget client a b c x y z before held behind bytes begun rest at along uncut feed s on =
    let line : Gives = cut_line held (as_text (begun ++ take at rest)) in record {
      served = along.served ++ line.commands;
      serves = serves-append budget client Between Between Between a b c x y z along.served line.commands along.serves s.serves;
      gives = all_gives budget client a b x y before held bytes begun rest at along uncut feed
          ∙ ap (with_commands along.served) (onward_on line (λ h. piece_gives h (drop (at + 1) rest)) (sym s.exits ∙ on))
          ∙ with_both along.served line.commands (piece_gives line.held (drop (at + 1) rest))
          ∙ ap (λ (h : Held). with_commands (along.served ++ line.commands) (piece_gives h (drop (at + 1) rest))) (sym s.held);
      rest = along.rest ∙ ap (λ (k : Cut). k.rest) (cut-begun begun rest at uncut feed);
    }

-- a line was served that exits
pub along-exit : (budget client : ℕ) (a b c : Session) (x y z : Option (List ℕ)) (before held : Held) (behind : Behind) (bytes begun rest : List ℕ) (at : ℕ) →
    IsAlong budget client a b x y before held bytes (begun ++ rest) → (cut begun).rest ≡ begun → IsFirstLineFeed rest at →
    ServesCut budget client b c y z (cut_line held (as_text (begun ++ take at rest))) behind → behind.exits ≡ true →
    ServesCut budget client a c x z (piece_gives before bytes) behind
along-exit budget client a b c x y z before held behind bytes begun rest at along uncut feed s out =
    let line : Gives = cut_line held (as_text (begun ++ take at rest)) in
    let is : piece_gives before bytes ≡ with_commands along.served line =
    all_gives budget client a b x y before held bytes begun rest at along uncut feed
    ∙ ap (with_commands along.served) (onward_out line (λ h. piece_gives h (drop (at + 1) rest)) (sym s.exits ∙ out)) in record {
      serves = subst (λ (g : Gives). Serves budget client Between Between a c x z g.commands) (sym is)
          (serves-append budget client Between Between Between a b c x y z along.served line.commands along.serves s.serves);
      held = s.held ∙ ap (λ (g : Gives). g.held) (sym is);
      exits = s.exits ∙ ap (λ (g : Gives). g.exits) (sym is);
    }

-- the serving of a line halted
pub along-part : (why : Halt) (budget client : ℕ) (a b c : Session) (x y z : Option (List ℕ)) (before held : Held) (bytes begun rest : List ℕ) (at : ℕ) →
    IsAlong budget client a b x y before held bytes (begun ++ rest) → (cut begun).rest ≡ begun → IsFirstLineFeed rest at →
    ServesPart why budget client Between b c y z (cut_line held (as_text (begun ++ take at rest))).commands → ServesPart why budget client Between a c x z (piece_gives before bytes).commands
along-part why budget client a b c x y z before held bytes begun rest at along uncut feed s =
    let line : Gives = cut_line held (as_text (begun ++ take at rest)) in
    let front = onward_front line (λ h. piece_gives h (drop (at + 1) rest)) in
    subst (λ (cs : List Command). ServesPart why budget client Between a c x z cs)
    (sym (ap (λ (g : Gives). g.commands) (all_gives budget client a b x y before held bytes begun rest at along uncut feed) ∙ ap (λ (cs : List Command). along.served ++ cs) front.1))
    (serves-part-append why budget client Between Between a b c x y z along.served (line.commands ++ front.0) along.serves
    (serves-part-more why budget client Between b c y z line.commands front.0 s))

-- want of memory on the way
pub along-memory : (budget client : ℕ) (a b : Session) (x y : Option (List ℕ)) (before held : Held) (bytes left : List ℕ) →
    IsAlong budget client a b x y before held bytes left → ServesPart halt.NoMemory budget client Between a b x y (piece_gives before bytes).commands
along-memory budget client a b x y before held bytes left along =
    subst (λ (g : Gives). ServesPart halt.NoMemory budget client Between a b x y g.commands) (sym along.gives)
    (serves-part-append halt.NoMemory budget client Between Between a b b x y y along.served (piece_gives held left).commands along.serves (part-for-memory budget client Between b y (piece_gives held left).commands))

-- no line is left
left_none : (begun rest : List ℕ) → (cut begun).rest ≡ begun → has_line_feed rest ≡ false → cut (begun ++ rest) ≡ record { whole = []; rest = begun ++ rest }
left_none begun rest uncut none = cut-no_line (begun ++ rest) (no_feed-append begun rest (has_line_feed-uncut begun uncut) none)

pub along-end : (budget client : ℕ) (a b : Session) (x y : Option (List ℕ)) (before held : Held) (bytes begun rest : List ℕ) →
    IsAlong budget client a b x y before held bytes (begun ++ rest) → (cut begun).rest ≡ begun → has_line_feed rest ≡ false →
    ServesCut budget client a b x y (piece_gives before bytes) (record { held = held; exits = false })
along-end budget client a b x y before held bytes begun rest along uncut none =
    let is : piece_gives before bytes ≡ record { commands = along.served ++ []; held = held; exits = false } =
    along.gives ∙ ap (λ (k : Cut). with_commands along.served (cut_lines held (map as_text k.whole))) (left_none begun rest uncut none) in record {
      serves = subst (λ (cs : List Command). Serves budget client Between Between a b x y cs) (sym (ap (λ (g : Gives). g.commands) is ∙ append-nil along.served)) along.serves;
      held = ap (λ (g : Gives). g.held) (sym is);
      exits = ap (λ (g : Gives). g.exits) (sym is);
    }

pub along-rest : (budget client : ℕ) (a b : Session) (x y : Option (List ℕ)) (before held : Held) (bytes begun rest : List ℕ) →
    IsAlong budget client a b x y before held bytes (begun ++ rest) → (cut begun).rest ≡ begun → has_line_feed rest ≡ false → (cut bytes).rest ≡ begun ++ rest
along-rest budget client a b x y before held bytes begun rest along uncut none =
    along.rest ∙ ap (λ (k : Cut). k.rest) (left_none begun rest uncut none)

-- what stands behind a line feed
pub behind-feed : (at : ℕ) (rest : List ℕ) → drop 1 (drop at rest) ≡ drop (at + 1) rest
behind-feed at rest = drop-drop 1 at rest

-- no line end was found
pub no-feed : (found : Option ℕ) (rest : List ℕ) → MatchOption found (has_line_feed rest ≡ false) (λ place. IsFirstLineFeed rest place) → found ≡ None → has_line_feed rest ≡ false
no-feed None rest h e = h
no-feed (Some at) rest h e = cc
