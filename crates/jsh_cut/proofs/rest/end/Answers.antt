use Rattle.std.proofs.Common.{◌≡◌, ◌<◌, ℕ, length, sym, subst, arith}
use Rattle.std.specs.Prelude.{None}
use Rattle.std.proofs.lemmas.Str.{IsCharBoundary-start}
use Rattle.jsh_lex.specs.Lexis.{tokens}
use Rattle.jsh_cut.specs.Commands.{fault_of}
use Rattle.jsh_cut.proofs.Placed.{IsPlace, last_placed, last_further, end_without}
use Rattle.jsh_cut.proofs.rest.end.Goals as goal

pub overflow_sub-result : goal.overflow_sub-result
overflow_sub-result c =
    let some : 0 < length c.args.tokens.now = omega arith in
    let at = last_placed c.args.base c.args.rest.now c.args.tokens.now c.utf8.rest c.requires.tokens some in
    omega (arith, at.behind, c.last_end.ensures)

pub returns-in-empty-clause-between : goal.returns-in-empty-clause-between
returns-in-empty-clause-between c = IsCharBoundary-start c.args.rest.now c.utf8.rest

pub returns-in-len1-up-clause-value : goal.returns-in-len1-up-clause-value
returns-in-len1-up-clause-value c =
    let rest = c.args.rest.now in
    let some : 0 < length c.args.tokens.now = omega arith in
    let none : None ≡ fault_of (tokens rest) = cc c.requires.fault in
    omega (arith, c.last_end.ensures, last_further c.args.base rest c.args.tokens.now c.requires.tokens some, end_without rest none)

pub returns-in-len1-up-clause-between : goal.returns-in-len1-up-clause-between
returns-in-len1-up-clause-between c =
    let some : 0 < length c.args.tokens.now = omega arith in
    let at : IsPlace c.args.base c.args.rest.now c.last_end.result =
    subst (λ (n : ℕ). IsPlace c.args.base c.args.rest.now n) (sym c.last_end.ensures)
    (last_placed c.args.base c.args.rest.now c.args.tokens.now c.utf8.rest c.requires.tokens some) in
    at.between
