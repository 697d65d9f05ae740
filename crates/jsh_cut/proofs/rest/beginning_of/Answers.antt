use Rattle.jsh_cut.proofs.Beginnings.{tells}
use Rattle.jsh_cut.proofs.rest.beginning_of.Goals as goal

pub returns-clause-kind : goal.returns-clause-kind
returns-clause-kind c = (tells c.args.base c.args.rest.now c.args.tokens.now c.args.fault c.analyze-completion.result c.utf8.rest c.requires.rest c.analyze-completion.ensures.completion).kind

pub returns-clause-end : goal.returns-clause-end
returns-clause-end c = (tells c.args.base c.args.rest.now c.args.tokens.now c.args.fault c.analyze-completion.result c.utf8.rest c.requires.rest c.analyze-completion.ensures.completion).end

pub returns-clause-between : goal.returns-clause-between
returns-clause-between c = (tells c.args.base c.args.rest.now c.args.tokens.now c.args.fault c.analyze-completion.result c.utf8.rest c.requires.rest c.analyze-completion.ensures.completion).between

pub returns-clause-some : goal.returns-clause-some
returns-clause-some c = (tells c.args.base c.args.rest.now c.args.tokens.now c.args.fault c.analyze-completion.result c.utf8.rest c.requires.rest c.analyze-completion.ensures.completion).some
