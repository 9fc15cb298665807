-- What a scan comes to.
use Rattle.std.proofs.Common.{◌≡◌, ℕ, ◌≤◌, List, [], ◌∷◌, ◌++◌, length, Option, Some, None, Result, Ok, Err, refl, sym, ap, ◌∙◌, subst, inl, inr, arith, Bool, true, false, ◌&&◌, ◌<◌, ◌+◌, IsTrue}
use Rattle.std.proofs.lemmas.Slice.Eq.{bytes_eq-Decides}
use Rattle.sp_value.specs.declared.cell.Cell.{Cell}
use Rattle.sp_model.specs.Book.{Book}
use Rattle.sp_model.specs.TrueNote.{TrueNote}
use Rattle.sp_model.specs.declared.call.Asked.{Asked}
use Rattle.sp_model.specs.declared.call.Asked.TheVariants as asks
use Rattle.sp_model.specs.declared.call.Version.{Version}
use Rattle.sp_model.specs.declared.declaration.TableDecl.{TableDecl}
use Rattle.sp_model.specs.declared.outcome.ScanValue.TheVariants.{Rows}
use Rattle.sp_model.specs.declared.scan.ScanNote.{ScanNote}
use Rattle.sp_model.specs.declared.scan.ScanRequest.{ScanRequest}
use Rattle.sp_model.specs.declared.settings.Options.{Options}
use Rattle.std.specs.Prelude.{Contains, IfSome, IfErr, OnOk, OnErr}
use Rattle.sp_model.specs.declared.settings.Connection.{Connection}
use Rattle.decl_words.specs.BookTables.{book_table}
use Rattle.scan_run.specs.Asked.{IsScanOf, IsServing, IsTableOf, meets_keys}
use Rattle.std.specs.Arc.{arc_value}
use Rattle.std.specs.declared.sync.Arc.{Arc}
use Rattle.sp_model.specs.declared.settings.Settings.{Settings}
use Rattle.desk.specs.Found.{IsFound}
use Rattle.sp_world.specs.declared.kept_scan.KeptScan.{KeptScan}
use Rattle.statement_words.specs.Advances.{Advances, IsRun, IsKnownStop}
use Rattle.statement_words.proofs.Advancing.{adds_true, known_memory, known_of, run_later}
use Rattle.statement_words.proofs.Stops.{later_tick, later_then}
use Rattle.statement_words.proofs.Turning.{adds_in_turn, turns_until}
use Rattle.statement_words.specs.Turns.{ticks_of}
use Rattle.sp_world.specs.Kept.{IsKeptValue}
use Rattle.sp_world.specs.Pieces.{IsToldVersion}
use Rattle.sp_model.specs.Covers.{covers}
use Rattle.sp_model.specs.Walk.{scan_value}
use Rattle.desk.specs.States.{DeskState, at_tick}
use Rattle.statement_words.specs.Answered.{Adds, IsScanned}
use Rattle.statement_words.specs.Ended.{IsEndOf}
use Rattle.statement_words.specs.Noted.{new_note, cached_note}
use Rattle.statement_words.specs.Runs.{IsLater, IsMemory, IsSpentOf, IsStopOf}
use Rattle.statement_words.specs.declared.stop.Stop.{Stop}
use Rattle.statement_words.specs.declared.stop.Stop.TheVariants as stop

pub told_version : (book : Book) (asked : Asked) (v : Version) (connection : List ℕ) (tick : ℕ) → asked ≡ asks.Version connection tick → IsToldVersion book asked v → v ≡ book.version connection tick
told_version book asked v connection tick same h = subst (λ (a : Asked). IsToldVersion book a v) same h

-- a noted scan that ran to its end
pub scanned_end : (book : Book) (table : TableDecl) (r : ScanRequest) (before after : List ScanNote) (n : ScanNote) (number : ℕ) (result : Result (List (List Cell)) Stop)
    → after ≡ before ++ n ∷ [] → n.request ≡ r → number ≡ length after → IsEndOf number r.connection (scan_value book table r n.version) result → IsScanned book table r before after result
scanned_end book table r before after n number (Ok rows) added same count h = record { note = n; added = added; of_request = same; is = h }
scanned_end book table r before after n number (Err (stop.ScanFailed scan row column cause)) added same count h = (h.0 ∙ count, record { note = n; added = added; of_request = same; is = h.1 })
scanned_end book table r before after n number (Err (stop.RestartsSpent connection losses)) added same count h = (h, inr (n, added, same))
scanned_end book table r before after n number (Err stop.Memory) added same count h = inr (n, added, same)

-- a scan that stops before its note
pub scanned_unnoted : (book : Book) (table : TableDecl) (r : ScanRequest) (before after : List ScanNote) (s : DeskState) (e : Stop)
    → after ≡ before → IsSpentOf s r.connection e → IsScanned book table r before after (Err e)
scanned_unnoted book table r before after s (stop.ScanFailed scan row column cause) same h = absurd h
scanned_unnoted book table r before after s (stop.RestartsSpent connection losses) same h = (h.0, inl same)
scanned_unnoted book table r before after s stop.Memory same h = inl same

-- a scan that a kept one serves
pub scanned_kept : (book : Book) (table : TableDecl) (r : ScanRequest) (before after : List ScanNote) (n : ScanNote) (rows : List (List Cell))
    → after ≡ before ++ n ∷ [] → n.request ≡ r → scan_value book table r n.version ≡ Some (Rows rows) → IsScanned book table r before after (Ok rows)
scanned_kept book table r before after n rows added same h = record { note = n; added = added; of_request = same; is = h }

-- the note of a fresh scan is true
pub new_is_true : (book : Book) (options : Options) (began at : ℕ) (r : ScanRequest) (v : Version) → began ≤ at → v ≡ book.version r.connection at → TrueNote book options began (new_note r at v)
new_is_true book options began at r v le same = record { version = same; after = le; marked = refl }

-- ---- kept scans

first_of_two : (a b : Bool) → (a && b) ≡ true → a ≡ true
first_of_two true b h = refl
first_of_two false b h = absurd (cc)

-- a kept scan that covers a request is of its connection
pub covered_connection : (kept : ScanRequest) (complete : Bool) (r : ScanRequest) → covers kept complete r ≡ true → kept.connection ≡ r.connection
unfolding covers
covered_connection kept complete r h = (bytes_eq-Decides kept.connection r.connection).0 (first_of_two _ _ (first_of_two _ _ (first_of_two _ _ (first_of_two _ _ h))))

-- the note of a scan that a kept one serves is true
pub cached_is_true : (book : Book) (options : Options) (began at : ℕ) (r : ScanRequest) (kept : ScanNote) → began ≤ at → kept.request.connection ≡ r.connection
    → kept.version ≡ book.version kept.request.connection kept.asked → at < kept.asked + options.cache_ttl → options.cache ≡ true → TrueNote book options began (cached_note r at kept)
cached_is_true book options began at r kept le same version young on = record {
  version = version ∙ ap (λ (c : List ℕ). book.version c kept.asked) same;
  after = le;
  marked = (young, on);
}

-- ---- steps of a scan

pub end_same : (book : Book) (x y : TableDecl) (q r : ScanRequest) (v : Version) (number : ℕ) (connection : List ℕ) (result : Result (List (List Cell)) Stop)
    → x ≡ y → q ≡ r → IsEndOf number connection (scan_value book x q v) result → IsEndOf number connection (scan_value book y r v) result
end_same book x y q r v number connection result e f h =
    subst (λ (t : TableDecl). IsEndOf number connection (scan_value book t r v) result) e (subst (λ (a : ScanRequest). IsEndOf number connection (scan_value book x a v) result) f h)

pub scanned_memory : (book : Book) (table : TableDecl) (r : ScanRequest) (before after : List ScanNote) (e : Stop) → e ≡ stop.Memory → after ≡ before → IsScanned book table r before after (Err e)
scanned_memory book table r before after e same kept = subst (λ (x : Stop). IsScanned book table r before after (Err x)) (sym same) (inl kept)

found_serves : (s : DeskState) (table : TableDecl) (r : ScanRequest) (kept : KeptScan) → IsFound s r kept → meets_keys table kept.note.request ≡ true → IsServing s.settings s.tick table r kept
found_serves s table r kept h met = record { on = h.on; covers = h.covers; met = met; young = h.young }

pub found_met : {Z : Type 0} (s : DeskState) (table : TableDecl) (r : ScanRequest) (kept : Arc KeptScan Z) (result : Option (Arc KeptScan Z)) → IsFound s r (arc_value kept)
    → IfSome result (λ k. (k ≡ kept) × (meets_keys table (arc_value k).note.request ≡ true)) → IfSome result (λ k. IsServing s.settings s.tick table r (arc_value k))
found_met {Z} s table r kept None found h = tt
found_met {Z} s table r kept (Some k) found h = found_serves s table r (arc_value k) (subst (λ (a : Arc KeptScan Z). IsFound s r (arc_value a)) (sym h.0) found) h.1

-- a kept scan that was found at a tick serves at that tick
pub serving_found : {Z : Type 0} (settings : Settings) (at : ℕ) (before s : DeskState) (table : TableDecl) (r : ScanRequest) (x : Option (Arc KeptScan Z)) (kept : Arc KeptScan Z) → s ≡ at_tick at before → before.settings ≡ settings
    → x ≡ Some kept → IfSome x (λ k. IsServing s.settings s.tick table r (arc_value k)) → IsServing settings at table r (arc_value kept)
serving_found {Z} settings at before s table r x kept same own is found =
    subst (λ (o : Settings). IsServing o at table r (arc_value kept)) own
    (subst (λ (t : DeskState). IsServing t.settings t.tick table r (arc_value kept)) same
    (subst (λ (y : Option (Arc KeptScan Z)). IfSome y (λ k. IsServing s.settings s.tick table r (arc_value k))) is found))

-- the desk is the same, later, and no note was added
pub advances_still : (tells : Bool) (book : Book) (settings : Settings) (s t : DeskState) (notes : List ScanNote) → IsLater s t → Advances tells book settings s t notes notes
advances_still tells book settings s t notes h = record { later = h; noted = λ told began le x. x; turn = λ first x. turns_until first s.tick t.tick (ticks_of notes) h.tick x }

-- a note of which this holds was added, at a tick that the desk read
pub advances_noted : (tells : Bool) (book : Book) (settings : Settings) (s t u : DeskState) (before after : List ScanNote) (at : ℕ) → s.tick ≤ at → t ≡ at_tick at s → IsLater t u
    → (IsTrue tells → (began : ℕ) → began ≤ at → Adds (TrueNote book settings.options began) before after) → Adds (λ n. n.at ≡ at) before after → Advances tells book settings s u before after
advances_noted tells book settings s t u before after at le read h adds is_at =
    let over : at ≤ u.tick = omega (arith, ap (λ (x : DeskState). x.tick) read, h.tick) in record {
      later = later_then s t u (later_tick s t at le read) h;
      noted = λ told began less x. adds_true book settings.options began before after (adds told began (omega arith)) x;
      turn = λ first x. adds_in_turn first s.tick at u.tick before after le over is_at x;
    }

-- a note was added where there are rows
pub adds_by : {X E : Type 0} (P : ScanNote → Type 0) (result : Result X E) (before after : List ScanNote) (n : ScanNote) → OnOk result (after ≡ before ++ n ∷ []) → OnErr result (after ≡ before) → P n → Adds P before after
adds_by P (Ok x) before after n ok err p = inr (n, ok, p)
adds_by P (Err e) before after n ok err p = inl err

pub known_stop : {X : Type 0} (s : DeskState) (number : ℕ) (connection : List ℕ) (result : Result X Stop) → IfErr result (IsStopOf s number connection) → IfErr result (IsKnownStop s)
known_stop s number connection (Ok x) h = tt
known_stop s number connection (Err e) h = known_of s number connection e h

-- a table of a connection that is named by a request is the one that the request asks for
pub place_book : (tells : Bool) (book : Book) (connections : List Connection) (c : Connection) (table : TableDecl) (r : ScanRequest) → IsTableOf tells book connections c table → c.name ≡ r.connection → IsScanOf table r → IsTrue tells
    → book_table book r.connection r.table ≡ Some table
place_book tells book connections c table r place named asked t =
    ap (λ (n : List ℕ). book_table book n r.table) (sym named) ∙ ap (book_table book c.name) asked.made.name ∙ place.of_book t

pub book_place : (tells : Bool) (book : Book) (connections : List Connection) (c : Connection) (table : TableDecl) (r : ScanRequest) → Contains connections c → c.aggregator ≡ false → c.name ≡ r.connection → IsScanOf table r
    → (IsTrue tells → book_table book r.connection r.table ≡ Some table) → IsTableOf tells book connections c table
book_place tells book connections c table r among plain named asked of_book = record {
  among = among;
  plain = plain;
  of_book = λ t. ap (λ (n : List ℕ). book_table book n table.name) named ∙ ap (book_table book r.connection) (sym asked.made.name) ∙ of_book t;
}

pub run_at : (settings : Settings) (s t : DeskState) → IsRun settings s → IsLater s t → IsRun settings t
run_at settings s t h l = run_later settings s t h l

pub memory_known : {X : Type 0} (s : DeskState) (result : Result X Stop) → IfErr result IsMemory → IfErr result (IsKnownStop s)
memory_known s (Ok x) h = tt
memory_known s (Err e) h = known_memory s e h

-- the note of a scan that a kept one serves is added, and true
pub served_note : (book : Book) (settings : Settings) (began at : ℕ) (table : TableDecl) (r : ScanRequest) (kept : KeptScan) (before after : List ScanNote) → IsServing settings at table r kept → IsKeptValue book kept → began ≤ at
    → after ≡ before ++ cached_note r at kept.note ∷ [] → Adds (TrueNote book settings.options began) before after
served_note book settings began at table r kept before after serving is_kept le added =
    inr (cached_note r at kept.note, added, cached_is_true book settings.options began at r kept.note le (covered_connection kept.note.request kept.complete r serving.covers) is_kept.version serving.young serving.on)

pub no_note : (P : ScanNote → Type 0) (before after : List ScanNote) → after ≡ before → Adds P before after
no_note P before after same = inl same
