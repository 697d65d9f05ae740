use Rattle.jsh_parse.proofs.StatementSound.{stmt_sound_whole}
use Rattle.jsh_parse.proofs.StatementComplete.{complete_stmt_whole}
use Rattle.jsh_parse.proofs.laws.statements_are_decided.Goals as goal

pub returns-clause-read : goal.returns-clause-read
returns-clause-read c = stmt_sound_whole

pub returns-clause-all : goal.returns-clause-all
returns-clause-all c = complete_stmt_whole
