-- Why files give nothing.
use Rattle.std.proofs.Common.{◌≡◌, ℕ, List, Some, None, Result, Err, inl, inr, refl, sym, subst}
use Rattle.std.specs.Prelude.{codes}
use Rattle.serde_json.specs.Data.{Data}
use Rattle.decl_words.specs.Faults.{is_memory}
use Rattle.decl_words.specs.Reading.{read_declaration}
use Rattle.decl_words.specs.declared.fault.DeclFault.{DeclFault}
use Rattle.decl_words.specs.declared.fault.DeclFault.TheVariants as decl
use Rattle.settings_text.specs.Faults.{IsUnlessMemory}
use Rattle.settings_text.specs.declared.fault.SettingsFault.{SettingsFault}
use Rattle.settings_text.specs.declared.fault.SettingsFault.TheVariants as fault
use Rattle.sp_model.specs.declared.declaration.Declaration.{Declaration}
use Rattle.sp_model.specs.declared.settings.Settings.{Settings}
use Rattle.sp_outside.specs.Files.{FileTold, IsFile}
use Rattle.sp_value.specs.Unless.{IsUnlessMemory as IsUnless}
use Rattle.sp_world.specs.LineJson.{json_of}
use Rattle.steampipe_top.specs.Reading.{settings_words, refusal_words, IsUnread, AreBadSettings, IsBadDeclaration, IsFileEnd, IsUnreadEnd, IsTextEnd, IsRefusal, IsSettingsRefusal, IsDeclarationRefusal}
use Rattle.steampipe_top.specs.Shown.{declaration_fault}
use Rattle.steampipe_top.specs.declared.reading.FileEnd.{FileEnd}
use Rattle.steampipe_top.specs.declared.reading.FileEnd.TheVariants.{Refused, Fault, Memory}

pub unread : (what : List ℕ) (file : FileTold) (faults faults_after : ℕ) (words : List ℕ) → IsUnread file faults faults_after words
    → (e : FileEnd) → IsRefusal what words e → IsUnreadEnd what file faults faults_after e
unread what file faults faults_after words why (Refused line) same = (words, why, same)
unread what file faults faults_after words why Fault never = absurd never
unread what file faults faults_after words why Memory u = tt

module _ (R : List ℕ → List ℕ → Type 0) (what : List ℕ) (file : FileTold) (faults faults_after : ℕ) where
  -- a file that can't be read
  pub by_unread : (e : FileEnd) → IsUnreadEnd what file faults faults_after e → IsFileEnd R what file faults faults_after e
  by_unread (Refused line) h = (h.0, inl h.1, h.2)
  by_unread Fault h = h
  by_unread Memory h = tt

  -- a text that is refused
  pub by_text : (bytes : List ℕ) → IsFile file bytes → (e : FileEnd) → IsTextEnd (R bytes) what e → IsFileEnd R what file faults faults_after e
  by_text bytes found (Refused line) h = (h.0, inr (record { bytes = bytes; found = found; fact = h.1 }), h.2)
  by_text bytes found Fault h = absurd h
  by_text bytes found Memory h = tt

-- one refusal
one : (R : List ℕ → Type 0) (what words : List ℕ) → R words → (e : FileEnd) → IsRefusal what words e → IsTextEnd R what e
one R what words why (Refused line) same = (words, why, same)
one R what words why Fault never = absurd never
one R what words why Memory u = tt

-- ---- settings

module _ (read : List ℕ → Result Settings SettingsFault) (bytes : List ℕ) (e : FileEnd) where
  bad : (f : SettingsFault) → Err f ≡ read bytes → IsRefusal (codes "settings") (settings_words f) e → IsTextEnd (AreBadSettings read bytes) (codes "settings") e
  bad f is h = one (AreBadSettings read bytes) (codes "settings") (settings_words f) (f, sym is, refl) e h

  by_fault : (f : SettingsFault) → IsUnlessMemory (Err f) (read bytes) → IsSettingsRefusal f e → IsTextEnd (AreBadSettings read bytes) (codes "settings") e
  by_fault fault.Memory u memory = subst (IsTextEnd (AreBadSettings read bytes) (codes "settings")) (sym memory) tt
  by_fault fault.Toml is h = bad fault.Toml is h
  by_fault (fault.Shape at) is h = bad (fault.Shape at) is h
  by_fault (fault.NotYet at) is h = bad (fault.NotYet at) is h
  by_fault (fault.Duplicate at) is h = bad (fault.Duplicate at) is h
  by_fault (fault.EmptyAggregator at) is h = bad (fault.EmptyAggregator at) is h
  by_fault (fault.MembersDiffer at) is h = bad (fault.MembersDiffer at) is h
  by_fault (fault.Limit at) is h = bad (fault.Limit at) is h

  -- the text is refused with this answer
  pub by_settings : (file : FileTold) (faults faults_after : ℕ) → IsFile file bytes → (r : Result Settings SettingsFault) (f : SettingsFault) → r ≡ Err f
      → IsUnlessMemory r (read bytes) → IsSettingsRefusal f e → IsFileEnd (AreBadSettings read) (codes "settings") file faults faults_after e
  by_settings file faults faults_after found r f same is h =
      by_text (AreBadSettings read) (codes "settings") file faults faults_after bytes found e (by_fault f (subst (λ x. IsUnlessMemory x (read bytes)) same is) h)

-- ---- declarations

module _ (bytes : List ℕ) (e : FileEnd) where
  pub by_json : json_of bytes ≡ None → IsRefusal (codes "declaration") (codes "json") e → IsTextEnd (IsBadDeclaration bytes) (codes "declaration") e
  by_json none h = one (IsBadDeclaration bytes) (codes "declaration") (codes "json") (inl (refl, none)) e h

  module _ (d : Data) (found : json_of bytes ≡ Some d) where
    refused : (f : DeclFault) → Err f ≡ read_declaration d → IsRefusal (codes "declaration") (refusal_words (declaration_fault f)) e
        → IsTextEnd (IsBadDeclaration bytes) (codes "declaration") e
    refused f is h = one (IsBadDeclaration bytes) (codes "declaration") (refusal_words (declaration_fault f)) (inr (f, (d, found, sym is), refl)) e h

    by_refusal : (f : DeclFault) → IsUnless is_memory (Err f) (read_declaration d) → IsDeclarationRefusal (declaration_fault f) e
        → IsTextEnd (IsBadDeclaration bytes) (codes "declaration") e
    by_refusal decl.Memory u memory = subst (IsTextEnd (IsBadDeclaration bytes) (codes "declaration")) (sym memory) tt
    by_refusal (decl.Shape table) is h = refused (decl.Shape table) is h
    by_refusal (decl.DuplicateName table) is h = refused (decl.DuplicateName table) is h
    by_refusal (decl.UnknownFunction table) is h = refused (decl.UnknownFunction table) is h
    by_refusal (decl.Cycle table functions) is h = refused (decl.Cycle table functions) is h
    by_refusal (decl.SubsetKeyIsHydrated table) is h = refused (decl.SubsetKeyIsHydrated table) is h
    by_refusal (decl.NoAccess table) is h = refused (decl.NoAccess table) is h
    by_refusal (decl.Limit table) is h = refused (decl.Limit table) is h

    -- the JSON is refused with this answer
    pub by_declaration : (r : Result Declaration DeclFault) (f : DeclFault) → r ≡ Err f → IsUnless is_memory r (read_declaration d)
        → IsDeclarationRefusal (declaration_fault f) e → IsTextEnd (IsBadDeclaration bytes) (codes "declaration") e
    by_declaration r f same is h = by_refusal f (subst (λ x. IsUnless is_memory x (read_declaration d)) same is) h
