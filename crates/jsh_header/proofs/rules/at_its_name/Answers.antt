use Rattle.std.proofs.Common.{◌≡◌, List, ◌&&◌, not, ◌∙◌, ap}
use Rattle.jsh_tree.specs.declared.key.Signature.{Signature}
use Rattle.jsh_scope.specs.Scope.{Scope}
use Rattle.jsh_header.specs.Outlines.{outlines}
use Rattle.jsh_header.specs.SuperRules.{class_methods, has_contradiction, lacks_body_of, is_library_name}
use Rattle.jsh_header.proofs.Alike.{said_at_name}
use Rattle.jsh_header.proofs.rules.at_its_name.Goals as goal

pub returns-clause-breaches : goal.returns-clause-breaches
returns-clause-breaches c =
    let scope = c.args.hierarchy.now in
    let place = c.args.place in
    let name = c.args.name.now in
    let own = c.args.own.now in
    let some = c.in_ok-inherited.inherited.items in
    let may = c.may_be_open-may_be_open.result in
    let opened_is : c.in_ok-opened.opened ≡ (not may && lacks_body_of (class_methods (outlines scope) place) own some) =
    c.in_ok-opened.ensures
    ∙ ap (λ (one : Scope). not may && lacks_body_of (class_methods (outlines one) place) own c.as_slice-2.result.now) c.inherited.ensures.kept
    ∙ ap (λ (methods : List Signature). not may && lacks_body_of (class_methods (outlines scope) place) own methods) c.as_slice-2.ensures.value in
    said_at_name scope place c.args.interface c.args.is_abstract name own some c.has_contradiction-contradicts.result may c.in_ok-opened.opened c.is_library_name-hides.result
    c.new-breaches.result.items c.push_at_name.new.breaches.items c.push_at_name-2.new.breaches.items c.push_at_name-3.new.breaches.items
    c.in_ok-inherited.ensures.methods
    (c.has_contradiction-contradicts.ensures ∙ ap (λ (methods : List Signature). has_contradiction own methods) c.as_slice.ensures.value)
    c.may_be_open-may_be_open.ensures
    opened_is
    (c.is_library_name-hides.ensures ∙ ap (λ (one : Scope). is_library_name one.library.types name) (c.names.ensures ∙ c.inherited.ensures.kept))
    c.new-breaches.ensures.items
    c.in_ok-push_at_name.ensures
    c.in_ok-push_at_name-2.ensures
    c.in_ok-push_at_name-3.ensures
