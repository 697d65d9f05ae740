-- What the streams in memory stand for.
use Rattle.std.specs.Prelude.{◌≡◌, ℕ, ◌+◌, ◌<◌, List, Option, Some, None, if◌then◌else◌, length, drop, min, Contains, string_bytes, vec_capacity, vec_len}
use Rattle.jsh_io.specs.Count.{one_more}
use Rattle.jsh_io.specs.Streams.{StreamName}
use Rattle.jsh_io.specs.Streams.StreamName.{StandardStream, FileNamed}
use Rattle.jsh_io.specs.declared.memory_sinks.InfallibleSink.{InfallibleSink}
use Rattle.jsh_io.specs.declared.memory_sinks.MemorySink.{MemorySink}
use Rattle.jsh_io.specs.declared.memory_sources.InfallibleSource.{InfallibleSource}
use Rattle.jsh_io.specs.declared.memory_sources.MemorySource.{MemorySource}
use Rattle.jsh_io.specs.declared.stream_labels.Label.{Label}
use Rattle.jsh_io.specs.declared.stream_labels.Label.TheVariants.{Unknown, Standard, File}

-- the bytes that are left
abbrev pub bytes_left : InfallibleSource → List ℕ
bytes_left source = drop source.read source.bytes.items

-- the bytes that are left of a source some of whose reads fail, and the most that a read gives
abbrev pub source_left : MemorySource → List ℕ
source_left source = bytes_left source.source

abbrev pub source_piece : MemorySource → ℕ
source_piece source = source.source.piece

-- the next write of a sink takes nothing
abbrev pub IsIdle : MemorySink → Type 0
IsIdle sink = Contains sink.idle.items (one_more sink.script.calls)

-- the bytes that a write would take of a piece do not fit in the room that a sink has
abbrev pub HasNoRoom : MemorySink → List ℕ → Type 0
HasNoRoom sink piece = vec_capacity sink.bytes < vec_len sink.bytes + min sink.piece (length piece)

-- all bytes that a sink was given, while it could keep them
abbrev pub written : InfallibleSink → Option (List ℕ)
written sink = if sink.is_complete then Some sink.bytes.items else None

-- the stream that a label tells
abbrev pub stream_of : Label → Option StreamName
stream_of Unknown = None
stream_of Standard = Some StandardStream
stream_of (File name) = Some (FileNamed (string_bytes name))

-- two sinks differ in their labels alone
pub record IsButLabel (a b : MemorySink) : Type 0 where
  pub bytes : b.bytes ≡ a.bytes
  pub piece : b.piece ≡ a.piece
  pub idle : b.idle ≡ a.idle
  pub script : b.script ≡ a.script
  pub faults : b.faults ≡ a.faults
