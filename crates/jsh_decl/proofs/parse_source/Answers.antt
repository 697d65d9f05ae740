use Rattle.std.proofs.Common.{sym, subst, ◌∙◌}
use Rattle.jsh_parse.specs.Reading.{AreTaken, spelled, ended}
use Rattle.jsh_decl.specs.Declarations.{IsSnippet, as_it_stands, with_semicolon}
use Rattle.jsh_decl.proofs.parse_source.Goals as goal

pub parse_snippet-requires-clause-taken : goal.parse_snippet-requires-clause-taken
parse_snippet-requires-clause-taken c = spelled c.args.tokens.now c.requires.spelled

pub returns-in-Ok-clause-ok : goal.returns-in-Ok-clause-ok
returns-in-Ok-clause-ok c = as_it_stands c.in-Ok.ensures.ok

pub parse_snippet-requires-2 : goal.parse_snippet-requires-2
parse_snippet-requires-2 c =
    record {
      taken = subst (AreTaken c.args.text.now) (sym (c.deref.ensures.value ∙ c.in_ok-ended.ensures)) (ended c.args.tokens.now c.requires.spelled);
      short = c.requires.few;
    }

pub returns : goal.returns
returns c =
    let text = c.args.text.now in
    record {
      ok = with_semicolon (λ other d. c.in-Err.ensures.refused c.in_default.not-NoMemory other d)
          (subst (λ ts. IsSnippet text 256 ts c.in-Ok-parse_snippet.tree) (c.deref.ensures.value ∙ c.in_ok-ended.ensures) c.in-Ok-parse_snippet.ensures.ok);
      refused = tt;
      refusal = tt;
    }
