use Rattle.std.proofs.Common.{◌≡◌, ◌<◌, map, length, Some, sym, ap, ◌∙◌, arith}
use Rattle.std.proofs.lemmas.List.{length-map}
use Rattle.std.specs.Arc.{arc_value}
use Rattle.std.specs.List.{position_or_len}
use Rattle.query_cache.specs.Entries.{serves}
use Rattle.query_cache.proofs.Fronts.{seen, none_passes, none_moves, first_passes, first_moves}
use Rattle.query_cache.proofs.cache.use_first.Goals as goal

pub returns-then-place-len-clause-found : goal.returns-then-place-len-clause-found
returns-then-place-len-clause-found g c =
    none_passes (serves c.args.request.now c.args.tick c.args.ttl) (map arc_value c.args.entries.now.items) c.first_serving-place.result
    (c.first_serving-place.ensures.place ∙ ap (λ xs. position_or_len (serves c.args.request.now c.args.tick c.args.ttl) (map arc_value xs)) c.as_slice.ensures.value)
    (c.if-place-len.true ∙ c.len.ensures ∙ sym c.as_slice.ensures.len ∙ ap length c.as_slice.ensures.value ∙ sym (length-map c.args.entries.now.items arc_value))

pub returns-then-place-len-clause-ok : goal.returns-then-place-len-clause-ok
returns-then-place-len-clause-ok g c =
    none_moves (serves c.args.request.now c.args.tick c.args.ttl) (map arc_value c.args.entries.now.items) c.first_serving-place.result
    (c.first_serving-place.ensures.place ∙ ap (λ xs. position_or_len (serves c.args.request.now c.args.tick c.args.ttl) (map arc_value xs)) c.as_slice.ensures.value)
    (c.if-place-len.true ∙ c.len.ensures ∙ sym c.as_slice.ensures.len ∙ ap length c.as_slice.ensures.value ∙ sym (length-map c.args.entries.now.items arc_value))

pub index-requires : goal.index-requires
index-requires g c = omega arith

pub bring_to_front-requires-clause-within : goal.bring_to_front-requires-clause-within
bring_to_front-requires-clause-within g c = omega arith

pub bring_to_front-requires-clause-item : goal.bring_to_front-requires-clause-item
bring_to_front-requires-clause-item g c = let e : length c.as_slice.result.now ≡ length c.args.entries.now.items = ap length c.as_slice.ensures.value in omega arith

pub returns-clause-found : goal.returns-clause-found
returns-clause-found g c =
    let e : length c.as_slice.result.now ≡ length c.args.entries.now.items = ap length c.as_slice.ensures.value in
    let within : c.first_serving-place.result < length c.args.entries.now.items = omega arith in
    ap (λ x. Some x) c.in_ok-found.ensures ∙ seen arc_value c.args.entries.now.items c.first_serving-place.result c.index.result.now within c.index.ensures
    ∙ first_passes (serves c.args.request.now c.args.tick c.args.ttl) (map arc_value c.args.entries.now.items) c.first_serving-place.result
    (c.first_serving-place.ensures.place ∙ ap (λ xs. position_or_len (serves c.args.request.now c.args.tick c.args.ttl) (map arc_value xs)) c.as_slice.ensures.value)

pub returns-clause-ok : goal.returns-clause-ok
returns-clause-ok g c =
    c.bring_to_front.ensures.items
    ∙ first_moves (serves c.args.request.now c.args.tick c.args.ttl) (map arc_value c.args.entries.now.items) c.first_serving-place.result
    (c.first_serving-place.ensures.place ∙ ap (λ xs. position_or_len (serves c.args.request.now c.args.tick c.args.ttl) (map arc_value xs)) c.as_slice.ensures.value)
