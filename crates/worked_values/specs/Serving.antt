-- Kept scans: which requests they serve, and with which rows.
use Rattle.std.specs.Prelude.{◌≡◌, ℕ, Bool, true, false, List, [], ◌∷◌, codes, Option, Some, None}
use Rattle.sp_value.specs.declared.cell.Cell.{Cell}
use Rattle.sp_value.specs.declared.cell.Cell as c
use Rattle.sp_value.specs.declared.truth.Op.TheVariants as op
use Rattle.sp_model.specs.Covers.{covers, rows_from}
use Rattle.sp_model.specs.declared.call.Condition.{Condition}
use Rattle.sp_model.specs.declared.scan.Access.TheVariants as access
use Rattle.sp_model.specs.declared.scan.ScanRequest.{ScanRequest}
use Rattle.worked_values.specs.Samples.{number, is, item, event, request_of}

abbrev pub both : List (List ℕ)
both = codes "id" ∷ codes "name" ∷ []

abbrev pub id_above_1 : Condition
id_above_1 = is (codes "id") op.Gt (number 1)

-- items in columns, by conditions, where the id only filters
abbrev pub items : List Condition → List (List ℕ) → Option ℕ → ScanRequest
items conditions columns limit = record (request_of item access.List conditions columns limit) { subset = codes "id" ∷ [] }

abbrev pub ant : List Cell
ant = number 1 ∷ c.Text (codes "ant") ∷ []

abbrev pub bee : List Cell
bee = number 2 ∷ c.Text (codes "bee") ∷ []

abbrev pub cat : List Cell
cat = number 3 ∷ c.Text (codes "cat") ∷ []

-- a kept scan, complete or not, serves a request
abbrev pub Serves : ScanRequest → Bool → ScanRequest → Type 0
Serves kept complete request = covers kept complete request ≡ true

abbrev pub ServesNot : ScanRequest → Bool → ScanRequest → Type 0
ServesNot kept complete request = covers kept complete request ≡ false

abbrev pub CompleteScanServes : Type 0
CompleteScanServes =
    (Serves (items [] both None) true (items [] both None) × Serves (items [] both None) true (items [] (codes "name" ∷ []) (Some 1)))
    × ((rows_from item (items [] both None) (ant ∷ bee ∷ []) (items [] both None) ≡ ant ∷ bee ∷ [])
    × (rows_from item (items [] both None) (ant ∷ bee ∷ []) (items [] (codes "name" ∷ []) (Some 1)) ≡ (c.Text (codes "ant") ∷ []) ∷ []))

-- a full scan serves up to its limit; one that is complete serves more
abbrev pub FullScanServesUpToItsLimit : Type 0
FullScanServesUpToItsLimit =
    (Serves (items [] both (Some 2)) false (items [] both (Some 2)) × Serves (items [] both (Some 2)) false (items [] both (Some 1)))
    × ((ServesNot (items [] both (Some 2)) false (items [] both (Some 3)) × ServesNot (items [] both (Some 2)) false (items [] both None))
    × ((Serves (items [] both (Some 3)) true (items [] both None)) × (rows_from item (items [] both (Some 2)) (ant ∷ bee ∷ []) (items [] both (Some 1)) ≡ ant ∷ [])))

-- a further condition on a subset key is served by a complete scan, without the rows for which it isn't true, and then the limit
abbrev pub SubsetConditionIsServed : Type 0
SubsetConditionIsServed =
    Serves (items [] both None) true (items (id_above_1 ∷ []) both None)
    × ((rows_from item (items [] both None) (ant ∷ bee ∷ cat ∷ []) (items (id_above_1 ∷ []) both None) ≡ bee ∷ cat ∷ [])
    × ((rows_from item (items [] both None) (ant ∷ bee ∷ cat ∷ []) (items (id_above_1 ∷ []) both (Some 1)) ≡ bee ∷ [])
    × ServesNot (items [] both (Some 3)) false (items (id_above_1 ∷ []) both (Some 1))))

-- nor the other way round; the same conditions are served, without another look at the rows
abbrev pub NarrowerScanServesNoWider : Type 0
NarrowerScanServesNoWider =
    ServesNot (items (id_above_1 ∷ []) both None) true (items [] both None)
    × (Serves (items (id_above_1 ∷ []) both None) true (items (id_above_1 ∷ []) both None)
    × (rows_from item (items (id_above_1 ∷ []) both None) (bee ∷ []) (items (id_above_1 ∷ []) both None) ≡ bee ∷ []))

abbrev pub in_eu : Condition
in_eu = is (codes "region") op.Eq (c.Text (codes "eu"))

abbrev pub in_a : Condition
in_a = is (codes "zone") op.Eq (c.Text (codes "a"))

abbrev pub events : List Condition → ScanRequest
events conditions = request_of event access.List conditions (codes "region" ∷ codes "zone" ∷ []) None

-- a further condition on an exact key asks the plugin
abbrev pub ExactConditionIsNotServed : Type 0
ExactConditionIsNotServed = ServesNot (events (in_eu ∷ [])) true (events (in_eu ∷ in_a ∷ []))

abbrev pub got : List Condition → ScanRequest
got conditions = record (request_of item access.Get conditions both None) { subset = codes "id" ∷ [] }

-- a get serves the same conditions alone
abbrev pub GetServesItsOwnConditions : Type 0
GetServesItsOwnConditions =
    Serves (got (is (codes "id") op.Eq (number 5) ∷ [])) true (got (is (codes "id") op.Eq (number 5) ∷ [])) × ServesNot (got []) true (got (is (codes "id") op.Eq (number 5) ∷ []))

-- of another connection, table or access, or in a column that wasn't kept
abbrev pub OtherScansServeNot : Type 0
OtherScansServeNot =
    (ServesNot (record (items [] both None) { connection = codes "d" }) true (items [] both None) × ServesNot (record (items [] both None) { table = codes "tag" }) true (items [] both None))
    × (ServesNot (got []) true (items [] both None) × ServesNot (items [] (codes "id" ∷ []) None) true (items [] both None))
