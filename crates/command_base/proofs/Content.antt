-- What names hold after one of them is written.
use Rattle.std.proofs.Common.{◌≡◌, ◌≢◌, ℕ, Bool, true, false, cond, List, Option, None, Some, bytes_eq, sym, ap, subst, ◌∙◌, refl, length, nat_lt}
use Rattle.std.specs.Prelude.{Result, Ok, Err}
use Rattle.std.proofs.lemmas.Slice.Eq.{bytes_eq-Decides}
use Rattle.std.proofs.lemmas.Map.Text.{is_eq-slice_cmp}
use Rattle.std.specs.Ordering.{nat_cmp, eq_by_cmp}
use Rattle.std.specs.Cmp.Lexicographic.{slice_cmp, nat_list_cmp_total}
use Rattle.std.specs.FinMap.{get, insert, get-insert}
use Rattle.ot_files.specs.Content.{Content, ChangesAtMost, reading_of, writing}
use Rattle.ot_files.specs.declared.access.FileError.{FileError}
use Rattle.ot_files.specs.declared.access.FileError.TheVariants.{Missing, TooLong}

not_same : (a b : List ℕ) → a ≢ b → eq_by_cmp (slice_cmp nat_cmp) a b ≡ false
not_same a b differs = is_eq-slice_cmp a b ∙ decided (bytes_eq a b) (bytes_eq-Decides a b).0
  where
    decided : (r : Bool) → (r ≡ true → a ≡ b) → r ≡ false
    decided true h = absurd (differs (h refl))
    decided false h = refl

pub get-insert_other : (content : Content) (name bytes : List ℕ) (other : List ℕ) → other ≢ name → get (insert content name bytes) other ≡ get content other
get-insert_other content name bytes other differs =
    get-insert nat_list_cmp_total content name bytes other ∙ ap (λ b. cond b (Some bytes) (get content other)) (not_same other name differs)

same_as_itself : (a : List ℕ) → eq_by_cmp (slice_cmp nat_cmp) a a ≡ true
same_as_itself a = is_eq-slice_cmp a a ∙ (bytes_eq-Decides a a).1 refl

-- what the name that was written holds
pub get-insert_same : (content : Content) (name bytes : List ℕ) → get (insert content name bytes) name ≡ Some bytes
get-insert_same content name bytes =
    get-insert nat_list_cmp_total content name bytes name ∙ ap (λ b. cond b (Some bytes) (get content name)) (same_as_itself name)

-- what was read of a name is what it holds
pub held_is : (limit : ℕ) (held : Option (List ℕ)) (bytes : List ℕ) → Ok bytes ≡ reading_of held limit → held ≡ Some bytes
held_is limit None bytes is = let u : ◌≡◌ {A = Result (List ℕ) FileError} (Ok bytes) (Err Missing) = is in cc
held_is limit (Some read) bytes is = within (nat_lt limit (length read)) is
  where
    within : (b : Bool) → ◌≡◌ {A = Result (List ℕ) FileError} (Ok bytes) (cond b (Err (TooLong limit)) (Ok read)) → ◌≡◌ {A = Option (List ℕ)} (Some read) (Some bytes)
    within true e = let u : ◌≡◌ {A = Result (List ℕ) FileError} (Ok bytes) (Err (TooLong limit)) = e in cc
    within false e = let u : ◌≡◌ {A = Result (List ℕ) FileError} (Ok bytes) (Ok read) = e in cc

-- what writes OUT changes at most OUT
pub written_others : (output file : List ℕ) (before after : Option Content) → after ≡ writing before output file → ChangesAtMost output before after
written_others output file None after is = subst (λ (c : Option Content). ChangesAtMost output None c) (sym is) tt
written_others output file (Some held) after is = subst (λ (c : Option Content). ChangesAtMost output (Some held) c) (sym is) (λ other differs. get-insert_other held output file other differs)
