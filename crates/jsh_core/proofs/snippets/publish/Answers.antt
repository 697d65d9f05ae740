-- What is kept after a snippet stands, and after want of memory.
use Rattle.jsh_core.proofs.SnippetLemmas.{published-either, published-sound, published-within, IsPublished}
use Rattle.jsh_core.proofs.snippets.publish.Goals as goal

pub returns-clause-sound : goal.returns-clause-sound
returns-clause-sound c =
    let more : IsPublished c.args.parts.now c.add_snippet.new.parts =
    published-either c.args.parts.now c.add_snippet.new.parts c.args.client c.args.plan c.add_snippet.result c.add_snippet.ensures.ok c.add_snippet.ensures.err in
    published-sound c.args.parts.now c.add_snippet.new.parts more c.add_snippet.ensures.world c.requires.room c.requires.sound

pub returns-clause-within : goal.returns-clause-within
returns-clause-within c = λ entries h.
    let more : IsPublished c.args.parts.now c.add_snippet.new.parts =
    published-either c.args.parts.now c.add_snippet.new.parts c.args.client c.args.plan c.add_snippet.result c.add_snippet.ensures.ok c.add_snippet.ensures.err in
    published-within c.args.parts.now c.add_snippet.new.parts entries more h
