-- What the generated world declares.
use Rattle.std.specs.Prelude.{◌≡◌, ℕ, List, [], ◌∷◌, codes, Option, Some, None, Ok}
use Rattle.sp_value.specs.declared.kind.Kind.{Kind}
use Rattle.sp_value.specs.declared.kind.Kind.TheVariants.{Int, Text}
use Rattle.sp_value.specs.declared.truth.Op.TheVariants.{Eq}
use Rattle.sp_model.specs.SubsetKeys.{SubsetKeysOnlyFilter}
use Rattle.sp_model.specs.declared.declaration.Backoff.TheVariants.{Constant}
use Rattle.sp_model.specs.declared.declaration.ColumnDecl.{ColumnDecl}
use Rattle.sp_model.specs.declared.declaration.Declaration.{Declaration}
use Rattle.sp_model.specs.declared.declaration.FunctionDecl.{FunctionDecl}
use Rattle.sp_model.specs.declared.declaration.KeyDecl.{KeyDecl}
use Rattle.sp_model.specs.declared.declaration.ListDecl.{ListDecl}
use Rattle.sp_model.specs.declared.declaration.Matching.TheVariants.{Exact}
use Rattle.sp_model.specs.declared.declaration.Need.TheVariants.{Required}
use Rattle.sp_model.specs.declared.declaration.Retry.{Retry}
use Rattle.sp_model.specs.declared.declaration.TableDecl.{TableDecl}
use Rattle.decl_words.specs.BookTables.{book_declaration, book_table}
use Rattle.load_gen.specs.Generated.{generated}

abbrev pub column : List ℕ → Kind → Option (List ℕ) → ColumnDecl
column name kind function = record { name = name; kind = kind; function = function; field = name }

-- the size has to be given, by `=`
abbrev pub key : KeyDecl
key = record { column = codes "size"; operators = Eq ∷ []; need = Required; matching = Exact }

abbrev pub rows : ListDecl
rows = record { function = codes "listRows"; keys = key ∷ []; parent = None; tags = []; ignore = None; retry = None }

-- two attempts, the second 5 ticks after the first
abbrev pub retry : Retry
retry = record { patterns = codes "Throttled" ∷ []; attempts = 2; backoff = Constant; interval = 5; cap = 1000000000 }

abbrev pub get_owner : FunctionDecl
get_owner = record { name = codes "getOwner"; depends = []; tags = []; ignore = None; retry = Some retry }

abbrev pub get_score : FunctionDecl
get_score = record { name = codes "getScore"; depends = codes "getOwner" ∷ []; tags = []; ignore = None; retry = None }

abbrev pub table : TableDecl
table = record {
  name = codes "row";
  columns = column (codes "id") Int None ∷ column (codes "size") Int None ∷ column (codes "owner") Text (Some (codes "getOwner")) ∷ column (codes "score") Int (Some (codes "getScore")) ∷ [];
  list = Some rows;
  get = None;
  functions = get_owner ∷ get_score ∷ [];
  ignore = None;
  retry = None;
  plugin = record { ignore = None; retry = None };
}

abbrev pub declared : Declaration
declared = record { tables = table ∷ []; ignore = None; retry = None }

-- the declaration of every connection is read so
abbrev pub DeclaresRows : Type 0
DeclaresRows = (connection : List ℕ) → book_declaration generated connection ≡ Ok declared

-- a condition more on a key that is declared to filter only leaves out items alone: no key is so declared
abbrev pub KeysFilter : Type 0
KeysFilter =
    (connection name : List ℕ) (t : TableDecl) (d : ListDecl)
    → book_table generated connection name ≡ Some t → t.list ≡ Some d → SubsetKeysOnlyFilter generated connection t d
