-- The sources of a bound statement are of declared tables.
use Rattle.std.proofs.Common.{◌≡◌, ◌⊎◌, inl, inr, ℕ, ◌+◌, Bool, true, false, List, [], ◌∷◌, ◌++◌, map, take, Option, Some, None, IsSome, Result, Ok, Err, refl, ap, subst, sym, ◌∙◌}
use Rattle.std.specs.Prelude.{All, IfOk, IsTrue, bytes_eq, slice_get, option_and_then, option_map}
use Rattle.std.specs.List.{flat_map, filter_map, cons_option, list_all}
use Rattle.std.proofs.lemmas.List.Elements.{All-nil, All-cons}
use Rattle.sp_model.specs.Book.{Book}
use Rattle.sp_model.specs.Names.{has_name}
use Rattle.sp_model.specs.declared.declaration.Declaration.{Declaration}
use Rattle.sp_model.specs.declared.declaration.TableDecl.{TableDecl}
use Rattle.sp_model.specs.declared.settings.Connection.{Connection}
use Rattle.sp_model.specs.declared.settings.Settings.{Settings}
use Rattle.decl_words.specs.BookTables.{book_declaration, book_table}
use Rattle.decl_words.specs.Sound.{IsSound}
use Rattle.declaration_run.specs.Declaring.{IsTold, IsRead, AreRead, ArePlain, AreDone}
use Rattle.plan_run.specs.Laws.{IsDeclared}
use Rattle.plan_run.proofs.AllReady.{all_ready}
use Rattle.source_run.specs.Laws.{gets_by_equals}
use Rattle.source_run.specs.Ready.{IsReady}
use Rattle.source_scans.specs.Planned.{IsPlanned}
use Rattle.statement_plan.specs.Plans.{IsPlanOf}
use Rattle.statement_plan.specs.declared.plan.Plan.{Plan}
use Rattle.sql_grammar.specs.declared.ast.Statement.{Statement}
use Rattle.sql_bind.proofs.Agreeing.{Each, each_name, names_of}
use Rattle.sql_bind.specs.Answer.{connections_named, plain_connections, each_once, refusal, refused_or, bound, bound_with}
use Rattle.sql_bind.specs.Binding.{bound_by, sources_from, source_of}
use Rattle.sql_bind.specs.Known.{Known, declaration_of}
use Rattle.sql_bind.specs.Members.{members_named, declared_under}
use Rattle.sql_bind.specs.Sources.{Opened, Seen, opened, first_table, with_table, seen_by, seen_of, table_of}
use Rattle.sql_bind.specs.declared.bound.Bound.{Bound}
use Rattle.sql_bind.specs.declared.bound.BoundSource.{BoundSource}
use Rattle.sql_bind.specs.declared.fault.BindFault.{BindFault}
use Rattle.statement_words.specs.Runs.{plain_names}
use Rattle.statement_run.specs.Answers.{groups_of}
use Rattle.statement_run.specs.declared.answer.AnswerEnd.{AnswerEnd}
use Rattle.statement_run.proofs.Agreements.{AsTheirFirst, groups_agree}
use Rattle.statement_run.proofs.Eaches.{each_then, each_both, each_of_map, each_of_parts, each_among, among_each, all_true}
use Rattle.statement_run.proofs.Tables.{book_has, is_sound, gets_by}

-- a table, as a source at these plain connections may have it
pub record IsTableOf (tells : Bool) (book : Book) (connections : List Connection) (members : List (List ℕ)) (t : TableDecl) : Type 0 where
  pub sound : IsSound t
  pub gets : gets_by_equals t ≡ true
  pub plain : list_all (has_name (plain_names connections)) members ≡ true
  pub of_book : IsTrue tells → (connection : List ℕ) → has_name members connection ≡ true → book_table book connection t.name ≡ Some t

-- the table that the declaration of a connection's first member has under a name is such a one
abbrev HasTables : Bool → Book → Settings → (List ℕ → Option Declaration) → List ℕ → Type 0
HasTables tells book settings ds name =
    (text : List ℕ) (t : TableDecl) → option_and_then (λ (d : Declaration). first_table text d.tables) (declared_under settings ds name) ≡ Some t
    → IsTableOf tells book settings.connections (members_named settings name) t

-- ---- from opened sources to bound ones

found_decl : (text : List ℕ) (o : Option Declaration) (t : TableDecl) → option_and_then (λ (d : Declaration). first_table text d.tables) o ≡ Some t → (d : Declaration) × (o ≡ Some d) × (first_table text d.tables ≡ Some t)
found_decl text None t e = absurd (cc)
found_decl text (Some d) t e = (d, refl, e)

module _ (tells : Bool) (book : Book) (settings : Settings) (ds : List ℕ → Option Declaration) where
  abbrev Declared : BoundSource → Type 0
  Declared s = IsDeclared tells book settings.connections s

  with_source : (all : List Seen) (n : ℕ) (o : Opened) (rest : List Seen) (x : Option TableDecl) → table_of (declared_under settings ds) o.source ≡ x
      → HasTables tells book settings ds o.source.connection.text → ((m : ℕ) → All Declared (sources_from settings all m rest))
      → All Declared (sources_from settings all n (cons_option (option_map (with_table o) x) rest))
  with_source all n o rest None is has later = later n
  with_source all n o rest (Some t) is has later =
      All-cons Declared (source_of settings (take (n + 1) all) (with_table o t)) (sources_from settings all (n + 1) rest) here (later (n + 1))
    where
      own : IsTableOf tells book settings.connections (members_named settings o.source.connection.text) t
      own = has o.source.table.text t is

      here : Declared (source_of settings (take (n + 1) all) (with_table o t))
      here = record { sound = own.sound; gets = own.gets; plain = own.plain; of_book = own.of_book }

  sources_declared : (all : List Seen) (os : List Opened) → Each (HasTables tells book settings ds) (names_of os) → (n : ℕ)
      → All Declared (sources_from settings all n (filter_map (seen_by (declared_under settings ds)) os))
  sources_declared all [] has n = All-nil Declared
  sources_declared all (o ∷ os) has n =
      with_source all n o (filter_map (seen_by (declared_under settings ds)) os) (table_of (declared_under settings ds) o.source) refl has.0 (λ m. sources_declared all os has.1 m)

  is_bound_by : (s : Statement) (r : Option BindFault) (x b : Bound) → refused_or r x ≡ Ok b → x ≡ b
  is_bound_by s None x b e = cc
  is_bound_by s (Some f) x b e = absurd (cc)

  pub bound_declared : (s : Statement) (b : Bound) → Each (HasTables tells book settings ds) (names_of (opened s)) → bound settings ds s ≡ Ok b → All Declared b.sources
  bound_declared s b has e =
      let seen = seen_of (declared_under settings ds) s in
      let same : bound_by settings seen s ≡ b = is_bound_by s (refusal settings (declared_under settings ds) seen s) (bound_by settings seen s) b e in
      subst (λ (x : Bound). All Declared x.sources) same (sources_declared seen (opened s) has 0)

-- ---- from what is known

module _ (tells : Bool) (book : Book) (known : Known) (s : Statement) (told : IsTrue tells → IsTold book known) (read : AreRead known)
    (plain : ArePlain known.settings (plain_connections known.settings s)) (done : AreDone known (groups_of known.settings s) (plain_connections known.settings s)) where
  abbrev settings : Settings
  settings = known.settings

  abbrev needed : List (List ℕ)
  needed = plain_connections known.settings s

  abbrev ds : List ℕ → Option Declaration
  ds = declaration_of known

  abbrev Among : List ℕ → Type 0
  Among m = has_name needed m ≡ true

  -- the members of each connection that is named
  members_among : Each (λ n. Each Among (members_named settings n)) (connections_named s)
  members_among = each_of_parts Among (members_named settings) (connections_named s)
      (each_name Among [] (flat_map (members_named settings) (connections_named s)) (each_among Among needed (λ m there. there)))

  agreeing : Each (λ n. AsTheirFirst ds (members_named settings n)) (connections_named s)
  agreeing = each_of_map (AsTheirFirst ds) (members_named settings) (connections_named s)
      (groups_agree ds (groups_of settings s) needed done.0 done.1
      (each_map (connections_named s) (each_then (λ n. Each Among (members_named settings n)) (λ n. (m : List ℕ) → has_name (members_named settings n) m ≡ true → Among m)
      (λ n each m of. among_each Among (members_named settings n) each m of) (connections_named s) members_among)))
    where
      each_map : (names : List (List ℕ)) → Each (λ n. (m : List ℕ) → has_name (members_named settings n) m ≡ true → Among m) names
          → Each (λ g. (m : List ℕ) → has_name g m ≡ true → has_name needed m ≡ true) (map (members_named settings) names)
      each_map [] all = tt
      each_map (n ∷ ns) all = (all.0, each_map ns all.1)

  has_tables : (n : List ℕ) → Each Among (members_named settings n) × AsTheirFirst ds (members_named settings n) → HasTables tells book settings ds n
  has_tables n facts text t e =
      let f = found_decl text (declared_under settings ds n) t e in
      let d : Declaration = f.0 in
      let of_first = first_of (members_named settings n) d f.1 in
      record {
        sound = is_sound book text d t (read of_first.0 d of_first.1) f.2;
        gets = gets_by text d t (read of_first.0 d of_first.1) f.2;
        plain = all_true (has_name (plain_names settings.connections)) (members_named settings n) (each_then Among (λ m. has_name (plain_names settings.connections) m ≡ true) plain (members_named settings n) facts.0);
        of_book = λ tells connection of. book_has book connection text d t (told tells connection d (facts.1 connection of ∙ f.1)) f.2;
      }
    where
      first_of : (ms : List (List ℕ)) (d : Declaration) → option_and_then ds (slice_get ms 0) ≡ Some d → (m : List ℕ) × (ds m ≡ Some d)
      first_of [] d e = absurd (cc)
      first_of (m ∷ ms) d e = (m, e)

  pub all_declared : (b : Bound) → bound settings ds s ≡ Ok b → All (IsDeclared tells book settings.connections) b.sources
  all_declared b e = bound_declared tells book settings ds s b
      (each_name (HasTables tells book settings ds) [] (names_of (opened s))
      (each_then (λ n. Each Among (members_named settings n) × AsTheirFirst ds (members_named settings n)) (HasTables tells book settings ds) has_tables (connections_named s)
      (each_both (λ n. Each Among (members_named settings n)) (λ n. AsTheirFirst ds (members_named settings n)) (connections_named s) members_among agreeing)))
      e

-- the sources of a plan of the bound statement may be scanned
pub plan_ready : (tells : Bool) (book : Book) (known : Known) (s : Statement) (told : IsTrue tells → IsTold book known) (read : AreRead known)
    (plain : ArePlain known.settings (plain_connections known.settings s)) (done : AreDone known (groups_of known.settings s) (plain_connections known.settings s))
    (b : Bound) (plan : Plan) → bound known.settings (declaration_of known) s ≡ Ok b → IsPlanOf b plan → All IsPlanned plan.sources → All (IsReady tells book known.settings.connections) plan.sources
plan_ready tells book known s told read plain done b plan is of planned = all_ready tells book known.settings.connections b plan of planned (all_declared tells book known s told read plain done b is)

pub ok_ready : (tells : Bool) (book : Book) (known : Known) (s : Statement) (told : IsTrue tells → IsTold book known) (read : AreRead known)
    (plain : ArePlain known.settings (plain_connections known.settings s)) (done : AreDone known (groups_of known.settings s) (plain_connections known.settings s))
    (b : Bound) (r : Result Plan AnswerEnd) → Ok b ≡ bound known.settings (declaration_of known) s → IfOk r (IsPlanOf b) → IfOk r (λ p. All IsPlanned p.sources)
    → IfOk r (λ p. All (IsReady tells book known.settings.connections) p.sources)
ok_ready tells book known s told read plain done b (Ok plan) is of planned = plan_ready tells book known s told read plain done b plan (sym is) of planned
ok_ready tells book known s told read plain done b (Err e) is of planned = tt
