-- The lists of names that a names file gives, or why it gives none.
use Rattle.std.proofs.Common.{◌≡◌, List, refl, subst}
use Rattle.std.specs.Prelude.{ℕ, Option, Result, Ok, Err, Some, OnOk, IfOk, IfErr}
use Rattle.ot_base.specs.NameLists.{NameLists, lists_with}
use Rattle.ot_base.specs.NamesFile.{IsNamesFile}
use Rattle.ot_files.specs.Content.{Content}
use Rattle.elf_objects.specs.declared.TheConstants.{MAX_FILE_BYTES}
use Rattle.command_base.specs.declared.stop.CommandStop.{CommandStop}
use Rattle.command_base.specs.Outside.{Outside}
use Rattle.command_base.specs.Reading.{MayRead}
use Rattle.command_base.specs.Names.{HoldsNames, IsListsStop, StopsAtNames, no_names}

pub names_held : {E : Type 0} (r : Result NameLists E) (content : Option Content) (file text shown : List ℕ) → MayRead MAX_FILE_BYTES content file (Ok text) → shown ≡ text → OnOk r (IsNamesFile shown) → IfOk r (λ lists. lists ≡ lists_with shown) → IfOk r (HoldsNames content file)
names_held (Ok lists) content file text shown may same right are = record { text = text; may = may; right = subst IsNamesFile same right; are = subst (λ (t : List ℕ). lists ≡ lists_with t) same are }
names_held (Err e) content file text shown may same right are = tt

pub names_refused : {T : Type 0} (r : Result T CommandStop) (file text shown : List ℕ) (before after : Outside) → MayRead MAX_FILE_BYTES before.content file (Ok text) → shown ≡ text → IfErr r (IsListsStop shown) → IfErr r (StopsAtNames (Some file) before after)
names_refused (Ok lists) file text shown before after may same h = tt
names_refused (Err s) file text shown before after may same h = no_names file text refl may (subst (λ (t : List ℕ). IsListsStop t s) same h)
