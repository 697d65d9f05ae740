use Rattle.std.proofs.Common.{◌≡◌, ◌∙◌, ℕ, List, [], ◌∷◌, ◌++◌, length, ap, sym, subst, append_assoc, arith, rules}
use Rattle.std.specs.Str.{IsCharBoundary}
use Rattle.std.specs.String.{string_bytes}
use Rattle.std.proofs.lemmas.Str.{encode_ascii, IsCharBoundary-at_seam}
use Rattle.jsh_cut.proofs.Onwards.{line_utf8}
use Rattle.jsh_cut.proofs.waiting.Waiting.with_line.Goals as goal

pub first_onward-first-requires-clause-front : goal.first_onward-first-requires-clause-front
first_onward-first-requires-clause-front c =
    let front = string_bytes c.self.inside.text in
    let line = c.args.line.now in
    let parts : c.as_str-3.result.now ≡ front ++ (line ++ 10 ∷ []) =
    c.as_str-3.ensures.value ∙ c.in_ok-push.ensures.bytes ∙ ap (λ (cs : List ℕ). string_bytes c.push_str.new.self ++ cs) (encode_ascii 10 (omega arith))
    ∙ ap (λ (cs : List ℕ). cs ++ 10 ∷ []) c.in_ok-push_str.ensures.bytes ∙ append_assoc front line (10 ∷ []) in
    let size : c.len-front.result ≡ length front = search rules in
    subst (λ (n : ℕ). IsCharBoundary c.as_str-3.result.now n) (sym size)
    (IsCharBoundary-at_seam c.as_str-3.result.now front (line ++ 10 ∷ []) parts (line_utf8 line c.utf8.line))

pub last_onward-last-requires-clause-front : goal.last_onward-last-requires-clause-front
last_onward-last-requires-clause-front c =
    let front = string_bytes c.self.inside.text in
    let line = c.args.line.now in
    let parts : c.as_str-4.result.now ≡ front ++ (line ++ 10 ∷ []) =
    c.as_str-4.ensures.value ∙ c.in_ok-push.ensures.bytes ∙ ap (λ (cs : List ℕ). string_bytes c.push_str.new.self ++ cs) (encode_ascii 10 (omega arith))
    ∙ ap (λ (cs : List ℕ). cs ++ 10 ∷ []) c.in_ok-push_str.ensures.bytes ∙ append_assoc front line (10 ∷ []) in
    let size : c.len-front.result ≡ length front = search rules in
    subst (λ (n : ℕ). IsCharBoundary c.as_str-4.result.now n) (sym size)
    (IsCharBoundary-at_seam c.as_str-4.result.now front (line ++ 10 ∷ []) parts (line_utf8 line c.utf8.line))
