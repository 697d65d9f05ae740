use Rattle.std.proofs.Common.{◌≡◌, ◌∙◌, ◌+◌, ◌<◌, ◌^◌, List, Some, length, ap, sym, subst, arith, length-drop}
use Rattle.jsh_tree.specs.declared.token.Token.{Token}
use Rattle.jsh_lex.specs.declared.lexeme.LexError.{LexError}
use Rattle.jsh_lex.specs.Lexis.{Lexed, tokens, IsFaultOf}
use Rattle.jsh_cut.specs.Scans.{lexed_as, EachFits}
use Rattle.jsh_cut.proofs.Faults.{fault_between}
use Rattle.jsh_cut.proofs.Onwards.{stand_fits}
use Rattle.jsh_cut.proofs.onward.lex_from.Goals as goal

pub add_moved-requires : goal.add_moved-requires
add_moved-requires c =
    let rest = c.range_from.result.now in
    let short : c.args.place + length rest < 2 ^ 32 =
    omega (arith, ap length c.range_from.ensures.value, length-drop c.args.place c.args.text.now, c.requires.between.0, c.requires.short) in
    let same : c.deref.result.now ≡ (tokens rest).tokens = c.deref.ensures.value ∙ sym (ap (λ (l : Lexed). l.tokens) c.in-Ok.ensures.tokens) in
    subst (λ (ts : List Token). EachFits c.args.place ts) (sym same) (stand_fits c.args.place rest 0 (tokens rest).tokens c.lex.ensures.spelled short)

pub add_moved-requires-in-Fault : goal.add_moved-requires-in-Fault
add_moved-requires-in-Fault c =
    let rest = c.range_from.result.now in
    let short : c.args.place + length rest < 2 ^ 32 =
    omega (arith, ap length c.range_from.ensures.value, length-drop c.args.place c.args.text.now, c.requires.between.0, c.requires.short) in
    let is : tokens rest ≡ lexed_as c.in-Fault.before (Some (c.in-Fault.kind, c.in-Fault.place)) =
    subst (λ (e : LexError). IsFaultOf rest e) c.in-Fault.is c.in-Err.ensures.fault in
    let same : c.as_slice.result.now ≡ (tokens rest).tokens = c.as_slice.ensures ∙ sym (ap (λ (l : Lexed). l.tokens) is) in
    subst (λ (ts : List Token). EachFits c.args.place ts) (sym same) (stand_fits c.args.place rest 0 (tokens rest).tokens c.lex.ensures.spelled short)

pub overflow_add-result : goal.overflow_add-result
overflow_add-result c =
    let rest = c.range_from.result.now in
    let is : tokens rest ≡ lexed_as c.in-Fault.before (Some (c.in-Fault.kind, c.in-Fault.place)) =
    subst (λ (e : LexError). IsFaultOf rest e) c.in-Fault.is c.in-Err.ensures.fault in
    let between = fault_between rest c.in-Fault.kind c.in-Fault.place c.range_from.utf8 (ap (λ (l : Lexed). l.fault) is) in
    omega (arith, between.0, ap length c.range_from.ensures.value, length-drop c.args.place c.args.text.now, c.requires.between.0, c.requires.short)
