-- How the pieces that are read are served.
use Rattle.std.proofs.Common.{◌≡◌, ℕ, ◌+◌, ◌<◌, ◌≤◌, true, false, List, [], ◌++◌, map, Option, IfSome, length, refl, ap, sym, subst, ◌∙◌, arith, append_assoc, append-nil, length-append, inl, inr}
use Rattle.std.proofs.lemmas.List.{map-append}
use Rattle.std.specs.Io.KnownBytes.{prepend_known}
use Rattle.jsh_io.proofs.Known.{prepend_known-prepend_known, prepend_known-nil}
use Rattle.jsh_io.specs.Count.{Rose}
use Rattle.jsh_lines.specs.Lines.{Cut, as_text, cut, last_lines}
use Rattle.jsh_lines.proofs.Cuts.{cut-append, cut-rest}
use Rattle.jsh_cut.specs.declared.command.Command.{Command}
use Rattle.jsh_cut.specs.declared.held.Held.{Held}
use Rattle.jsh_cut.specs.declared.held.Held.TheVariants as held
use Rattle.jsh_cut.specs.Commands.{Gives, before_exit, cut_input, cut_lines, exits, with_commands}
use Rattle.jsh_shell.specs.Cutting.{ServesCut, closing, ending, piece_gives}
use Rattle.jsh_shell.specs.declared.halts.Halt.{Halt}
use Rattle.jsh_shell.specs.declared.lines.Behind.{Behind}
use Rattle.jsh_shell.specs.declared.session.Session.{Session}
use Rattle.jsh_shell.specs.Progress.Phase.{Between}
use Rattle.jsh_shell.specs.Input.{most_input}
use Rattle.jsh_shell.specs.Statuses.{all_served, limit_met, read_failed}
use Rattle.jsh_shell.specs.Serving.{HasCause, Serves, ServesPart, IsServedBy, status_of}
use Rattle.jsh_shell.proofs.Onward.{lines-append, onward_on}
use Rattle.jsh_shell.proofs.ServeLemmas.{serves-nothing, serves-append, serves-part-append}

-- what the whole lines of an input give
abbrev input_gives : List ℕ → Gives
input_gives read = piece_gives held.Nothing read

-- So much was read, its whole lines were served, its rest begins a line, and this is held.
pub record IsReading (budget client : ℕ) (first now : Session) (left_before left x y : Option (List ℕ)) (waiting : Held) (rest : List ℕ) (total : ℕ) : Type 0 where
  pub read : List ℕ
  pub reads : left_before ≡ prepend_known read left
  pub count : length read ≡ total
  pub begun : rest ≡ (cut read).rest
  pub serves : Serves budget client Between Between first now x y (input_gives read).commands
  pub held : waiting ≡ (input_gives read).held
  pub on : (input_gives read).exits ≡ false

pub reading-start : (budget client : ℕ) (h : Session) (left x : Option (List ℕ)) → IsReading budget client h h left left x x held.Nothing [] 0
reading-start budget client h left x = record {
  read = [];
  reads = sym (prepend_known-nil left);
  count = refl;
  begun = refl;
  serves = serves-nothing budget client Between h x;
  held = refl;
  on = refl;
}

-- the commands of the whole lines
whole_gives : (read : List ℕ) → cut_input read false ≡ input_gives read
whole_gives read = ap (λ (lines : List (List ℕ)). cut_lines held.Nothing (map as_text lines)) (append-nil (cut read).whole)

whole_commands : (read : List ℕ) → before_exit read false ≡ (input_gives read).commands
whole_commands read = append-nil (cut_input read false).commands ∙ ap (λ (g : Gives). g.commands) (whole_gives read)

whole_exits : (read : List ℕ) → exits read false ≡ (input_gives read).exits
whole_exits read = ap (λ (g : Gives). g.exits) (whole_gives read)

-- what lines give behind those that were served
gives_behind : (waiting : Held) (read : List ℕ) (lines : List (List ℕ)) → waiting ≡ (input_gives read).held → (input_gives read).exits ≡ false →
    cut_lines held.Nothing (map as_text ((cut read).whole ++ lines)) ≡ with_commands (input_gives read).commands (cut_lines waiting (map as_text lines))
gives_behind waiting read lines is on =
    ap (cut_lines held.Nothing) (map-append as_text (cut read).whole lines)
    ∙ lines-append held.Nothing (map as_text (cut read).whole) (map as_text lines)
    ∙ onward_on (input_gives read) (λ h. cut_lines h (map as_text lines)) on
    ∙ ap (λ (h : Held). with_commands (input_gives read).commands (cut_lines h (map as_text lines))) (sym is)

-- the commands of whole lines and of the end of the input
last_commands : (waiting : Held) (read rest : List ℕ) → rest ≡ (cut read).rest → waiting ≡ (input_gives read).held → (input_gives read).exits ≡ false →
    before_exit read true ≡ (input_gives read).commands ++ ending waiting rest
last_commands waiting read rest begun is on =
    let lines : List (List ℕ) = last_lines (cut read).rest in
    ap (λ (g : Gives). g.commands ++ closing g) (gives_behind waiting read lines is on)
    ∙ append_assoc (input_gives read).commands (cut_lines waiting (map as_text lines)).commands (closing (cut_lines waiting (map as_text lines)))
    ∙ ap (λ (r : List ℕ). (input_gives read).commands ++ ending waiting r) (sym begun)

-- the whole lines with one piece more
more_gives : (waiting : Held) (read piece rest : List ℕ) → rest ≡ (cut read).rest → waiting ≡ (input_gives read).held → (input_gives read).exits ≡ false →
    input_gives (read ++ piece) ≡ with_commands (input_gives read).commands (piece_gives waiting (rest ++ piece))
more_gives waiting read piece rest begun is on =
    ap (λ (c : Cut). cut_lines held.Nothing (map as_text c.whole)) (cut-append read piece)
    ∙ gives_behind waiting read (cut ((cut read).rest ++ piece)).whole is on
    ∙ ap (λ (r : List ℕ). with_commands (input_gives read).commands (piece_gives waiting (r ++ piece))) (sym begun)

-- the bytes that were read, with one piece more
reads_more : (read piece : List ℕ) (left0 left1 left2 : Option (List ℕ)) → left0 ≡ prepend_known read left1 → left1 ≡ prepend_known piece left2 → left0 ≡ prepend_known (read ++ piece) left2
reads_more read piece left0 left1 left2 reads more = reads ∙ ap (prepend_known read) more ∙ prepend_known-prepend_known read piece left2

counts_more : (read piece : List ℕ) (total : ℕ) → length read ≡ total → length (read ++ piece) ≡ total + length piece
counts_more read piece total count = length-append read piece ∙ ap (λ n. n + length piece) count

pub reading-more : (budget client : ℕ) (a b c : Session) (left0 left1 left2 x y z : Option (List ℕ)) (waiting : Held) (behind : Behind) (rest piece next : List ℕ) (total now : ℕ) →
    IsReading budget client a b left0 left1 x y waiting rest total → left1 ≡ prepend_known piece left2 → now ≡ total + length piece →
    ServesCut budget client b c y z (piece_gives waiting (rest ++ piece)) behind → behind.exits ≡ false → next ≡ (cut (rest ++ piece)).rest →
    IsReading budget client a c left0 left2 x z behind.held next now
reading-more budget client a b c left0 left1 left2 x y z waiting behind rest piece next total now r reads sum s on begun =
    let gives = more_gives waiting r.read piece rest r.begun r.held r.on in record {
      read = r.read ++ piece;
      reads = reads_more r.read piece left0 left1 left2 r.reads reads;
      count = counts_more r.read piece total r.count ∙ sym sum;
      begun = begun ∙ ap (λ (h : List ℕ). (cut (h ++ piece)).rest) r.begun ∙ sym (ap (λ (k : Cut). k.rest) (cut-append r.read piece));
      serves = subst (λ (g : Gives). Serves budget client Between Between a c x z g.commands) (sym gives)
          (serves-append budget client Between Between Between a b c x y z (input_gives r.read).commands (piece_gives waiting (rest ++ piece)).commands r.serves s.serves);
      held = s.held ∙ ap (λ (g : Gives). g.held) (sym gives);
      on = ap (λ (g : Gives). g.exits) gives ∙ sym s.exits ∙ on;
    }

-- a read failed
pub served-failed : (reads0 reads1 writes0 writes1 : ℕ) (budget client : ℕ) (a b : Session) (left0 left1 left2 x y : Option (List ℕ)) (waiting : Held) (rest : List ℕ) (total : ℕ) →
    IsReading budget client a b left0 left1 x y waiting rest total → left2 ≡ left1 → total < most_input → Rose reads0 reads1 → writes1 ≡ writes0 → IsServedBy budget client read_failed a b left0 left2 x y reads0 reads1 writes0 writes1
served-failed reads0 reads1 writes0 writes1 budget client a b left0 left1 left2 x y waiting rest total r same less failed unwritten = record {
  read = r.read;
  ended = false;
  reads = r.reads ∙ ap (prepend_known r.read) (sym same);
  all_read = λ e. cc;
  few = omega (arith, r.count, less);
  outcome = inr (inl (
    refl,
    whole_exits r.read ∙ r.on,
    subst (λ n. n < most_input) (sym r.count) less,
    failed,
    unwritten,
    subst (λ (cs : List Command). Serves budget client Between Between a b x y cs) (sym (whole_commands r.read)) r.serves,
  ));
}

-- all that may be read was read
pub served-most : (reads0 reads1 writes0 writes1 : ℕ) (budget client : ℕ) (a b : Session) (left0 left1 x y : Option (List ℕ)) (waiting : Held) (rest : List ℕ) (total : ℕ) →
    IsReading budget client a b left0 left1 x y waiting rest total → total ≡ most_input → reads1 ≡ reads0 → writes1 ≡ writes0 → IsServedBy budget client limit_met a b left0 left1 x y reads0 reads1 writes0 writes1
served-most reads0 reads1 writes0 writes1 budget client a b left0 left1 x y waiting rest total r full unread unwritten = record {
  read = r.read;
  ended = false;
  reads = r.reads;
  all_read = λ e. cc;
  few = subst (λ n. n ≤ most_input) (sym (r.count ∙ full)) (omega arith);
  outcome = inr (inr (inl (refl, refl, r.count ∙ full, unread, unwritten, subst (λ (cs : List Command). Serves budget client Between Between a b x y cs) (sym (whole_commands r.read)) r.serves)));
}

-- the commands were served up to a line that exits
exit_serves : (budget client : ℕ) (a b c : Session) (left0 left1 x y z : Option (List ℕ)) (waiting : Held) (behind : Behind) (rest piece : List ℕ) (total : ℕ) →
    (r : IsReading budget client a b left0 left1 x y waiting rest total) → ServesCut budget client b c y z (piece_gives waiting (rest ++ piece)) behind →
    Serves budget client Between Between a c x z (before_exit (r.read ++ piece) false)
exit_serves budget client a b c left0 left1 x y z waiting behind rest piece total r s =
    subst (λ (cs : List Command). Serves budget client Between Between a c x z cs)
    (sym (whole_commands (r.read ++ piece) ∙ ap (λ (g : Gives). g.commands) (more_gives waiting r.read piece rest r.begun r.held r.on)))
    (serves-append budget client Between Between Between a b c x y z (input_gives r.read).commands (piece_gives waiting (rest ++ piece)).commands r.serves s.serves)

pub served-exit : (reads0 reads1 writes0 writes1 : ℕ) (budget client : ℕ) (a b c : Session) (left0 left1 left2 x y z : Option (List ℕ)) (waiting : Held) (behind : Behind) (rest piece : List ℕ) (total : ℕ) →
    IsReading budget client a b left0 left1 x y waiting rest total → left1 ≡ prepend_known piece left2 → total + length piece < most_input →
    ServesCut budget client b c y z (piece_gives waiting (rest ++ piece)) behind → behind.exits ≡ true → reads1 ≡ reads0 → writes1 ≡ writes0 → IsServedBy budget client all_served a c left0 left2 x z reads0 reads1 writes0 writes1
served-exit reads0 reads1 writes0 writes1 budget client a b c left0 left1 left2 x y z waiting behind rest piece total r reads less s out unread unwritten = record {
  read = r.read ++ piece;
  ended = false;
  reads = reads_more r.read piece left0 left1 left2 r.reads reads;
  all_read = λ e. cc;
  few = omega (arith, counts_more r.read piece total r.count, less);
  outcome = inl (
    refl,
    whole_exits (r.read ++ piece) ∙ ap (λ (g : Gives). g.exits) (more_gives waiting r.read piece rest r.begun r.held r.on) ∙ sym s.exits ∙ out,
    subst (λ n. n < most_input) (sym (counts_more r.read piece total r.count)) less,
    unread,
    unwritten,
    exit_serves budget client a b c left0 left1 x y z waiting behind rest piece total r s,
  );
}

-- it exits in the piece with which all that may be read was read
pub served-exit-most : (reads0 reads1 writes0 writes1 : ℕ) (budget client : ℕ) (a b c : Session) (left0 left1 left2 x y z : Option (List ℕ)) (waiting : Held) (behind : Behind) (rest piece : List ℕ) (total : ℕ) →
    IsReading budget client a b left0 left1 x y waiting rest total → left1 ≡ prepend_known piece left2 → total + length piece ≡ most_input →
    ServesCut budget client b c y z (piece_gives waiting (rest ++ piece)) behind → reads1 ≡ reads0 → writes1 ≡ writes0 → IsServedBy budget client limit_met a c left0 left2 x z reads0 reads1 writes0 writes1
served-exit-most reads0 reads1 writes0 writes1 budget client a b c left0 left1 left2 x y z waiting behind rest piece total r reads full s unread unwritten = record {
  read = r.read ++ piece;
  ended = false;
  reads = reads_more r.read piece left0 left1 left2 r.reads reads;
  all_read = λ e. cc;
  few = subst (λ n. n ≤ most_input) (sym (counts_more r.read piece total r.count ∙ full)) (omega arith);
  outcome = inr (inr (inl (
    refl,
    refl,
    counts_more r.read piece total r.count ∙ full,
    unread,
    unwritten,
    exit_serves budget client a b c left0 left1 x y z waiting behind rest piece total r s,
  )));
}

-- nothing is left where a read gives nothing
pub nothing-left : (left1 left2 : Option (List ℕ)) → left1 ≡ prepend_known [] left2 → IfSome left1 (λ (bytes : List ℕ). bytes ≡ []) → IfSome left2 (λ (rest : List ℕ). rest ≡ [])
nothing-left left1 left2 reads none = subst (λ (l : Option (List ℕ)). IfSome l (λ (rest : List ℕ). rest ≡ [])) (reads ∙ prepend_known-nil left2) none

-- the input has ended
pub served-whole : (reads0 reads1 writes0 writes1 : ℕ) (budget client : ℕ) (a b c : Session) (left0 left1 left2 x y z : Option (List ℕ)) (waiting : Held) (rest : List ℕ) (total : ℕ) →
    IsReading budget client a b left0 left1 x y waiting rest total → left1 ≡ prepend_known [] left2 → IfSome left1 (λ (bytes : List ℕ). bytes ≡ []) → total < most_input →
    Serves budget client Between Between b c y z (ending waiting rest) → reads1 ≡ reads0 → writes1 ≡ writes0 → IsServedBy budget client all_served a c left0 left2 x z reads0 reads1 writes0 writes1
served-whole reads0 reads1 writes0 writes1 budget client a b c left0 left1 left2 x y z waiting rest total r reads none less s unread unwritten = record {
  read = r.read;
  ended = true;
  reads = r.reads ∙ ap (prepend_known r.read) (reads ∙ prepend_known-nil left2);
  all_read = λ e. nothing-left left1 left2 reads none;
  few = omega (arith, r.count, less);
  outcome = inl (
    refl,
    refl,
    subst (λ n. n < most_input) (sym r.count) less,
    unread,
    unwritten,
    subst (λ (cs : List Command). Serves budget client Between Between a c x z cs) (sym (last_commands waiting r.read rest r.begun r.held r.on))
        (serves-append budget client Between Between Between a b c x y z (input_gives r.read).commands (ending waiting rest) r.serves s),
  );
}

-- the end of the input was served no further
pub served-part-end : (reads0 reads1 writes0 writes1 : ℕ) (why : Halt) (budget client status : ℕ) (a b c : Session) (left0 left1 left2 x y z : Option (List ℕ)) (waiting : Held) (rest : List ℕ) (total : ℕ) →
    IsReading budget client a b left0 left1 x y waiting rest total → left1 ≡ prepend_known [] left2 → IfSome left1 (λ (bytes : List ℕ). bytes ≡ []) → total ≤ most_input →
    status ≡ status_of why → reads1 ≡ reads0 → HasCause why writes0 writes1 → ServesPart why budget client Between b c y z (ending waiting rest) → IsServedBy budget client status a c left0 left2 x z reads0 reads1 writes0 writes1
served-part-end reads0 reads1 writes0 writes1 why budget client status a b c left0 left1 left2 x y z waiting rest total r reads none few is unread cause s = record {
  read = r.read;
  ended = true;
  reads = r.reads ∙ ap (prepend_known r.read) (reads ∙ prepend_known-nil left2);
  all_read = λ e. nothing-left left1 left2 reads none;
  few = subst (λ n. n ≤ most_input) (sym r.count) few;
  outcome = inr (inr (inr (
    why,
    is,
    unread,
    cause,
    subst (λ (cs : List Command). ServesPart why budget client Between a c x z cs) (sym (last_commands waiting r.read rest r.begun r.held r.on))
        (serves-part-append why budget client Between Between a b c x y z (input_gives r.read).commands (ending waiting rest) r.serves s),
  )));
}

-- a line of a piece was served no further
pub served-part-piece : (reads0 reads1 writes0 writes1 : ℕ) (why : Halt) (budget client status : ℕ) (a b c : Session) (left0 left1 left2 x y z : Option (List ℕ)) (waiting : Held) (rest piece : List ℕ) (total : ℕ) →
    IsReading budget client a b left0 left1 x y waiting rest total → left1 ≡ prepend_known piece left2 → total + length piece ≤ most_input →
    status ≡ status_of why → reads1 ≡ reads0 → HasCause why writes0 writes1 → ServesPart why budget client Between b c y z (piece_gives waiting (rest ++ piece)).commands → IsServedBy budget client status a c left0 left2 x z reads0 reads1 writes0 writes1
served-part-piece reads0 reads1 writes0 writes1 why budget client status a b c left0 left1 left2 x y z waiting rest piece total r reads few is unread cause s = record {
  read = r.read ++ piece;
  ended = false;
  reads = reads_more r.read piece left0 left1 left2 r.reads reads;
  all_read = λ e. cc;
  few = subst (λ n. n ≤ most_input) (sym (counts_more r.read piece total r.count)) few;
  outcome = inr (inr (inr (
    why,
    is,
    unread,
    cause,
    subst (λ (cs : List Command). ServesPart why budget client Between a c x z cs)
        (sym (whole_commands (r.read ++ piece) ∙ ap (λ (g : Gives). g.commands) (more_gives waiting r.read piece rest r.begun r.held r.on)))
        (serves-part-append why budget client Between Between a b c x y z (input_gives r.read).commands (piece_gives waiting (rest ++ piece)).commands r.serves s),
  )));
}

-- what a line begins with is no whole line
pub uncut-begun : (begun read : List ℕ) → begun ≡ (cut read).rest → (cut begun).rest ≡ begun
uncut-begun begun read is = ap (λ (h : List ℕ). (cut h).rest) is ∙ ap (λ (k : Cut). k.rest) (cut-rest read) ∙ sym is
