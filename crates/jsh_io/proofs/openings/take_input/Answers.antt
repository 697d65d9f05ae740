use Rattle.std.proofs.Common.{map, sym, ◌∙◌, ap}
use Rattle.std.specs.Prelude.{option_map}
use Rattle.jsh_io.specs.Memory.{source_left}
use Rattle.jsh_io.specs.MemoryDesk.{file_of}
use Rattle.jsh_io.proofs.MemoryFiles.{bytes_of-file_of, others-file_of, missing-file}
use Rattle.jsh_io.proofs.openings.take_input.Goals as goal

pub returns-clause-bytes : goal.returns-clause-bytes
returns-clause-bytes c =
    ap (option_map (λ fresh. source_left fresh.source)) c.take_named.ensures.first ∙ sym (bytes_of-file_of c.args.name.now c.args.inputs.now.items)

pub returns-clause-rest : goal.returns-clause-rest
returns-clause-rest c = ap (map file_of) c.take_named.ensures.rest ∙ sym (others-file_of c.args.name.now c.args.inputs.now.items)

pub returns-clause-missing : goal.returns-clause-missing
returns-clause-missing c = missing-file c.args.name.now c.args.inputs.now.items c.take_named.new.list.items c.take_named.result c.take_named.ensures.first c.take_named.ensures.rest
