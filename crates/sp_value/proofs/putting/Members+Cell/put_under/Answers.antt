use Rattle.std.proofs.Common.{◌∙◌}
use Rattle.sp_value.proofs.PutLaws.{parts_same, put_many, put_rises, put_is}
use Rattle.sp_value.proofs.putting.Members+Cell.put_under.Goals as goal

pub put_parts-requires : goal.put_parts-requires
put_parts-requires c = parts_same c.args.self.now c.names.result.now c.values.result.now c.names.ensures.value c.values.ensures

pub from_parts-requires-clause-as_many : goal.from_parts-requires-clause-as_many
from_parts-requires-clause-as_many c =
    put_many c.args.name.now c.args.value.now c.args.self.now c.names.result.now c.new-names.result c.put_parts.new.into_names c.values.result.now c.new-values.result c.put_parts.new.into_values c.names.ensures.value c.values.ensures c.new-names.ensures c.new-values.ensures
    c.in_ok-put_parts.ensures.names c.in_ok-put_parts.ensures.values

pub from_parts-requires-clause-rising : goal.from_parts-requires-clause-rising
from_parts-requires-clause-rising c =
    put_rises c.args.name.now c.args.value.now c.args.self.now c.names.result.now c.new-names.result c.put_parts.new.into_names c.values.result.now c.new-values.result c.put_parts.new.into_values c.names.ensures.value c.values.ensures c.new-names.ensures c.new-values.ensures
    c.in_ok-put_parts.ensures.names c.in_ok-put_parts.ensures.values c.names.ensures.rising

pub returns : goal.returns
returns c =
    c.from_parts.ensures ∙ put_is c.args.name.now c.args.value.now c.args.self.now c.names.result.now c.new-names.result c.put_parts.new.into_names c.values.result.now c.new-values.result c.put_parts.new.into_values c.names.ensures.value c.values.ensures c.new-names.ensures c.new-values.ensures
    c.in_ok-put_parts.ensures.names c.in_ok-put_parts.ensures.values
