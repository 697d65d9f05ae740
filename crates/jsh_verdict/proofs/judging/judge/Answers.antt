use Rattle.std.proofs.Common.{◌≡◌, ◌≢◌, [], ◌∷◌, IfOk, ap, sym, subst, ◌∙◌, rules}
use Rattle.std.proofs.lemmas.List.{nil_from_length}
use Rattle.jsh_tree.specs.declared.diagnostic.Code.TheVariants as code
use Rattle.jsh_lex.specs.Lexis.{IsFaultOf}
use Rattle.jsh_grammar.specs.Productions.{snippet}
use Rattle.jsh_parse.specs.Refusals.{IsRefusal}
use Rattle.jsh_verdict.specs.declared.verdict.Verdict.TheVariants.{Rejected}
use Rattle.jsh_verdict.specs.Diagnostics.{diagnostic}
use Rattle.jsh_verdict.proofs.Decides.{tree_on_fault, tree_on_nothing, tree_on_tree, tree_on_none, verdict_on_fault, verdict_on_nothing, verdict_on_tree, verdict_on_wanted, verdict_on_depth, has_tokens}
use Rattle.jsh_verdict.proofs.judging.judge.Goals as goal

pub returns-in-Fault-clause-tree : goal.returns-in-Fault-clause-tree
returns-in-Fault-clause-tree c =
    let lexed = subst (IsFaultOf c.args.source.now) c.in-Fault.is c.in-Err.ensures.fault in
    subst (λ tree. IfOk c.refused.result (λ j. j.tree ≡ tree)) (sym (tree_on_fault c.args.source.now c.in-Fault.before c.in-Fault.kind c.in-Fault.place lexed))
    c.refused.ensures.tree

pub returns-in-Fault-clause-verdict : goal.returns-in-Fault-clause-verdict
returns-in-Fault-clause-verdict c =
    let lexed = subst (IsFaultOf c.args.source.now) c.in-Fault.is c.in-Err.ensures.fault in
    subst (λ verdict. IfOk c.refused.result (λ j. j.verdict ≡ verdict)) (
    ap (λ what. Rejected (diagnostic what c.in-Fault.place ∷ [])) c.lexical_code.ensures
    ∙ sym (verdict_on_fault c.args.source.now c.in-Fault.before c.in-Fault.kind c.in-Fault.place lexed)
    )
    c.refused.ensures.verdict

pub returns-then-is_empty-clause-tree : goal.returns-then-is_empty-clause-tree
returns-then-is_empty-clause-tree c =
    let none : c.in-Ok.tokens.items ≡ [] = nil_from_length c.in-Ok.tokens.items (search rules) in
    subst (λ tree. IfOk c.refused-then-is_empty.result (λ j. j.tree ≡ tree))
    (sym (tree_on_nothing c.args.source.now c.in-Ok.tokens.items c.in-Ok.ensures.tokens none)) c.refused-then-is_empty.ensures.tree

pub returns-then-is_empty-clause-verdict : goal.returns-then-is_empty-clause-verdict
returns-then-is_empty-clause-verdict c =
    let none : c.in-Ok.tokens.items ≡ [] = nil_from_length c.in-Ok.tokens.items (search rules) in
    subst (λ verdict. IfOk c.refused-then-is_empty.result (λ j. j.verdict ≡ verdict))
    (sym (verdict_on_nothing c.args.source.now c.in-Ok.tokens.items c.in-Ok.ensures.tokens none)) c.refused-then-is_empty.ensures.verdict

pub returns-in-Ok-parse_source-clause-tree : goal.returns-in-Ok-parse_source-clause-tree
returns-in-Ok-parse_source-clause-tree c =
    let some : c.in-Ok.tokens.items ≢ [] = search rules in
    let has = has_tokens c.args.source.now c.in-Ok.tokens.items c.deref.result.now c.in-Ok.ensures.tokens c.deref.ensures.value some in
    subst (λ tree. IfOk c.judge_tree.result (λ j. j.tree ≡ tree))
    (sym (tree_on_tree c.args.source.now c.deref.result.now c.in-Ok-parse_source.tree has c.in-Ok-parse_source.ensures.ok)) c.judge_tree.ensures.tree

pub returns-in-Ok-parse_source-clause-verdict : goal.returns-in-Ok-parse_source-clause-verdict
returns-in-Ok-parse_source-clause-verdict c =
    let some : c.in-Ok.tokens.items ≢ [] = search rules in
    let has = has_tokens c.args.source.now c.in-Ok.tokens.items c.deref.result.now c.in-Ok.ensures.tokens c.deref.ensures.value some in
    subst (λ verdict. IfOk c.judge_tree.result (λ j. j.verdict ≡ verdict))
    (sym (verdict_on_tree c.args.source.now c.deref.result.now c.in-Ok-parse_source.tree has c.in-Ok-parse_source.ensures.ok)) c.judge_tree.ensures.verdict

pub returns-in-Wanted-clause-tree : goal.returns-in-Wanted-clause-tree
returns-in-Wanted-clause-tree c =
    let some : c.in-Ok.tokens.items ≢ [] = search rules in
    let has = has_tokens c.args.source.now c.in-Ok.tokens.items c.deref.result.now c.in-Ok.ensures.tokens c.deref.ensures.value some in
    let none = c.in-Err-parse_source.ensures.refused (λ is. let so = c.in-Wanted.is in absurd cc) in
    subst (λ tree. IfOk c.refused-in-Wanted.result (λ j. j.tree ≡ tree))
    (sym (tree_on_none c.args.source.now c.deref.result.now (has, none))) c.refused-in-Wanted.ensures.tree

pub returns-in-Wanted-clause-verdict : goal.returns-in-Wanted-clause-verdict
returns-in-Wanted-clause-verdict c =
    let some : c.in-Ok.tokens.items ≢ [] = search rules in
    let has = has_tokens c.args.source.now c.in-Ok.tokens.items c.deref.result.now c.in-Ok.ensures.tokens c.deref.ensures.value some in
    let none = c.in-Err-parse_source.ensures.refused (λ is. let so = c.in-Wanted.is in absurd cc) in
    subst (λ verdict. IfOk c.refused-in-Wanted.result (λ j. j.verdict ≡ verdict))
    (sym (verdict_on_wanted c.args.source.now c.deref.result.now c.in-Wanted.place c.in-Wanted.wanted (has, none)
    (subst (IsRefusal snippet c.args.source.now c.deref.result.now) c.in-Wanted.is c.in-Err-parse_source.ensures.refusal)))
    c.refused-in-Wanted.ensures.verdict

pub returns-clause-tree : goal.returns-clause-tree
returns-clause-tree c =
    let some : c.in-Ok.tokens.items ≢ [] = search rules in
    let has = has_tokens c.args.source.now c.in-Ok.tokens.items c.deref.result.now c.in-Ok.ensures.tokens c.deref.ensures.value some in
    let none = c.in-Err-parse_source.ensures.refused (λ is. let so = c.in-TooDeep.is in absurd cc) in
    subst (λ tree. IfOk c.refused-in-TooDeep.result (λ j. j.tree ≡ tree))
    (sym (tree_on_none c.args.source.now c.deref.result.now (has, none))) c.refused-in-TooDeep.ensures.tree

pub returns-clause-verdict : goal.returns-clause-verdict
returns-clause-verdict c =
    let some : c.in-Ok.tokens.items ≢ [] = search rules in
    let has = has_tokens c.args.source.now c.in-Ok.tokens.items c.deref.result.now c.in-Ok.ensures.tokens c.deref.ensures.value some in
    let none = c.in-Err-parse_source.ensures.refused (λ is. let so = c.in-TooDeep.is in absurd cc) in
    subst (λ verdict. IfOk c.refused-in-TooDeep.result (λ j. j.verdict ≡ verdict))
    (sym (verdict_on_depth c.args.source.now c.deref.result.now c.in-TooDeep.limit (has, none)
    (subst (IsRefusal snippet c.args.source.now c.deref.result.now) c.in-TooDeep.is c.in-Err-parse_source.ensures.refusal)))
    c.refused-in-TooDeep.ensures.verdict
