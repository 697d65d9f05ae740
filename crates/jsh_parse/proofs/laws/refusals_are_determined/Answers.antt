use Rattle.jsh_parse.proofs.OneRefusal.{one_place, one_limit, one_way}
use Rattle.jsh_parse.proofs.laws.refusals_are_determined.Goals as goal

pub returns : goal.returns
returns c = record { one_place = one_place; one_limit = one_limit; one_way = one_way }
