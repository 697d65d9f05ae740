-- Which calls of an object in memory fail.
use Rattle.std.specs.Prelude.{Contains}
use Rattle.jsh_io.specs.Count.{one_more}
use Rattle.jsh_io.specs.declared.scripts.Script.{Script}

-- the next call is to fail
abbrev pub Fails : Script → Type 0
Fails script = Contains script.failing.items (one_more script.calls)

-- one more call was made
abbrev pub called : Script → Script
called script = record script { calls = one_more script.calls }
