use Rattle.std.proofs.Common.{◌≡◌, map, take}
use Rattle.query_cache.specs.Places.{place_of}
use Rattle.query_cache.proofs.placing.places_of.Given as goal

abbrev pub invariant-loop-name : goal.invariant-loop-name
invariant-loop-name l = l.places.items ≡ map (place_of l.names) (take l.name-index l.wanted)
