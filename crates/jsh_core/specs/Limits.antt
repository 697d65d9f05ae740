-- The limits of an engine. That of the bytes of one source is `most_source` of jsh_tree.
use Rattle.std.specs.Prelude.{ℕ}

-- entries of a history, before its last leaves and its close
abbrev pub most_entries : ℕ
most_entries = 4194304

-- source bytes of a history
abbrev pub most_bytes : ℕ
most_bytes = 67108864

-- records that stand
abbrev pub most_records : ℕ
most_records = 16384

-- clients that are numbered, client 0 included
abbrev pub most_clients : ℕ
most_clients = 64

-- threads that are alive
abbrev pub most_threads : ℕ
most_threads = 256

-- visible steps of one turn
abbrev pub most_steps : ℕ
most_steps = 256
