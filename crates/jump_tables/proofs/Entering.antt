-- The entries of a table for an owner.
use Rattle.std.proofs.Common.{◌≡◌, ℕ, zero, suc, ◌+◌, ◌-◌, ◌<◌, ◌≤◌, Bool, true, false, cond, List, [], ◌∷◌, ◌++◌, length, map, Option, Some, None, arith, refl, sym, ap, ◌∙◌}
use Rattle.std.specs.List.{range_with_len, take_while}
use Rattle.std.proofs.lemmas.Bool.{eqb-true}
use Rattle.std.proofs.lemmas.List.{append-nil, append_assoc}
use Rattle.std.proofs.lemmas.List.Sums.{take_while-cons}
use Rattle.ot_base.specs.declared.place.Place.{Place}
use Rattle.elf_objects.specs.Elf.{Elf}
use Rattle.elf_objects.specs.Contents.{relocs_at}
use Rattle.symbols_relocs.specs.Parts.{owner_at}
use Rattle.special_sections.specs.declared.entries.AltEntry.{AltEntry}
use Rattle.alternatives.specs.declared.texts.SectionText.{SectionText}
use Rattle.jump_tables.specs.declared.table.Table.{Table}
use Rattle.flow_defs.specs.Tables.{entries_for, table_entry_at, same_owner, up_to_none}
use Rattle.jump_tables.specs.Kept.{entry_for, IsTableFrom}

abbrev of_owner : Elf → Option ℕ → Place → Bool
of_owner o owner place = same_owner (owner_at o place) owner

-- those up to the first that is none or has another owner
abbrev pub front : Elf → Option ℕ → List (Option Place) → List Place
front o owner entries = take_while (of_owner o owner) (up_to_none entries)

front_some : (o : Elf) (owner : Option ℕ) (place : Place) (rest : List (Option Place)) → front o owner (Some place ∷ rest) ≡ cond (of_owner o owner place) (place ∷ front o owner rest) []
front_some o owner place rest = take_while-cons (of_owner o owner) place (up_to_none rest)

not_some : {X : Type 0} (x : X) (b : Bool) → cond b (Some x) None ≡ None → b ≡ false
not_some x true h = cc
not_some x false h = refl

is_some : {X : Type 0} (x y : X) (b : Bool) → cond b (Some x) None ≡ Some y → (b ≡ true) × (x ≡ y)
is_some x y true h = (refl, cc)
is_some x y false h = cc

-- one that is none or another owner's ends them
pub front_ends : (o : Elf) (owner : Option ℕ) (entry : Option Place) (rest : List (Option Place)) → entry_for o owner entry ≡ None → front o owner (entry ∷ rest) ≡ []
front_ends o owner None rest none = refl
front_ends o owner (Some place) rest none =
    front_some o owner place rest ∙ ap (λ b. cond b (place ∷ front o owner rest) []) (not_some place (of_owner o owner place) none)

-- one of the owner goes on
pub front_more : (o : Elf) (owner : Option ℕ) (entry : Option Place) (place : Place) (rest : List (Option Place)) → entry_for o owner entry ≡ Some place → front o owner (entry ∷ rest) ≡ place ∷ front o owner rest
front_more o owner None place rest some = cc
front_more o owner (Some q) place rest some =
    let both = is_some q place (of_owner o owner q) some in
    front_some o owner q rest ∙ ap (λ b. cond b (q ∷ front o owner rest) []) both.0 ∙ ap (λ p. p ∷ front o owner rest) both.1

less : (i n : ℕ) → i < n → n - i ≡ suc (n - (i + 1))
less i n inside = omega arith

none_left : (i n : ℕ) → n ≤ i → n - i ≡ 0
none_left i n past = omega arith

same_is_owner : (a b : Option ℕ) → same_owner a b ≡ true → a ≡ b
same_is_owner (Some a) (Some b) same = ap Some (eqb-true a b same)
same_is_owner (Some a) None same = cc
same_is_owner None (Some b) same = cc
same_is_owner None None same = refl

none_for : (b : Bool) (xs : List Place) → xs ≡ [] → cond b xs [] ≡ []
none_for true xs empty = empty
none_for false xs empty = refl

module _ (o : Elf) (texts : List SectionText) (entries : List AltEntry) (table : Place) where
  -- the entries from one on
  abbrev pub entries_from : ℕ → ℕ → List (Option Place)
  entries_from i n = map (table_entry_at o texts entries table) (range_with_len i n)

  -- what stands before an entry, and what follows
  abbrev pub LeavesRest : Option ℕ → List Place → ℕ → ℕ → Type 0
  LeavesRest owner list i n = entries_for o texts entries table owner ≡ list ++ front o owner (entries_from i (n - i))

  split : (i n : ℕ) → i < n → entries_from i (n - i) ≡ table_entry_at o texts entries table i ∷ entries_from (i + 1) (n - (i + 1))
  split i n inside = ap (entries_from i) (less i n inside)

  pub rest_ends : (owner : Option ℕ) (list : List Place) (i n : ℕ) → i < n → LeavesRest owner list i n → entry_for o owner (table_entry_at o texts entries table i) ≡ None → list ≡ entries_for o texts entries table owner
  rest_ends owner list i n inside leaves none =
      sym (leaves ∙ ap (λ xs. list ++ front o owner xs) (split i n inside) ∙ ap (λ xs. list ++ xs) (front_ends o owner (table_entry_at o texts entries table i) (entries_from (i + 1) (n - (i + 1))) none) ∙ append-nil list)

  pub rest_more : (owner : Option ℕ) (list : List Place) (i n : ℕ) (place : Place) → i < n → LeavesRest owner list i n → entry_for o owner (table_entry_at o texts entries table i) ≡ Some place → LeavesRest owner (list ++ place ∷ []) (i + 1) n
  rest_more owner list i n place inside leaves some =
      leaves
      ∙ ap (λ xs. list ++ front o owner xs) (split i n inside)
      ∙ ap (λ xs. list ++ xs) (front_more o owner (table_entry_at o texts entries table i) place (entries_from (i + 1) (n - (i + 1))) some)
      ∙ sym (append_assoc list (place ∷ []) (front o owner (entries_from (i + 1) (n - (i + 1)))))

  pub rest_none : (owner : Option ℕ) (list : List Place) (i n : ℕ) → n ≤ i → LeavesRest owner list i n → list ≡ entries_for o texts entries table owner
  rest_none owner list i n past leaves =
      sym (leaves ∙ ap (λ k. list ++ front o owner (entries_from i k)) (none_left i n past) ∙ append-nil list)

  -- a table without a first entry has none for any owner
  pub no_first : (n : ℕ) (owner : Option ℕ) → table_entry_at o texts entries table 0 ≡ None → front o owner (entries_from 0 n) ≡ []
  no_first zero owner none = refl
  no_first (suc n) owner none = ap (λ e. front o owner (e ∷ entries_from (0 + 1) n)) none

  -- one whose first entry has another owner neither
  pub other_first : (n : ℕ) (owner : Option ℕ) (first : Place) → table_entry_at o texts entries table 0 ≡ Some first → of_owner o owner first ≡ false → front o owner (entries_from 0 n) ≡ []
  other_first zero owner first some other = refl
  other_first (suc n) owner first some other =
      ap (λ e. front o owner (e ∷ entries_from (0 + 1) n)) some
      ∙ front_some o owner first (entries_from (0 + 1) n)
      ∙ ap (λ b. cond b (first ∷ front o owner (entries_from (0 + 1) n)) []) other

  -- what is kept of a table without a first entry
  pub no_table : (kept : Table) → kept.entries.items ≡ [] → table_entry_at o texts entries table 0 ≡ None → IsTableFrom o texts entries table kept
  no_table kept empty none = record {
    kept = λ asked. none_for (same_owner kept.owner asked) kept.entries.items empty ∙ sym (no_first (length (relocs_at o table.sec)) asked none);
  }

  -- and of one with a first entry
  pub some_table : (first : Place) (kept : Table) → table_entry_at o texts entries table 0 ≡ Some first → kept.owner ≡ owner_at o first → kept.entries.items ≡ entries_for o texts entries table kept.owner → IsTableFrom o texts entries table kept
  some_table first kept some is all = record {
    kept = λ asked.
        elim (same_owner kept.owner asked) as (λ b. same_owner kept.owner asked ≡ b → cond b kept.entries.items [] ≡ entries_for o texts entries table asked) [
          | true ↦ λ same. all ∙ ap (entries_for o texts entries table) (same_is_owner kept.owner asked same)
          | false ↦ λ other. sym (other_first (length (relocs_at o table.sec)) asked first some (ap (λ w. same_owner w asked) (sym is) ∙ other))
        ] refl;
  }
