use Rattle.jsh_decl.proofs.SoundSnippets.{snippet_sound_whole}
use Rattle.jsh_decl.proofs.Complete.{complete_snippet_whole}
use Rattle.jsh_decl.proofs.laws.snippets_are_decided.Goals as goal

pub returns-clause-read : goal.returns-clause-read
returns-clause-read c = snippet_sound_whole

pub returns-clause-all : goal.returns-clause-all
returns-clause-all c = complete_snippet_whole
