-- Finding, setting and adding a stored entry, as the content sees it.
use Rattle.std.proofs.Common.{◌≡◌, ◌≢◌, ℕ, suc, ◌+◌, ◌<◌, Bool, true, false, cond, List, [], ◌∷◌, ◌++◌, map, length, get_or, set, Option, None, Some, MatchOption, Vec, string_bytes, bytes_eq, position, refl, sym, ap, ◌∙◌, subst, ap₂, zero-add, arith}
use Rattle.std.proofs.lemmas.List.{map-append}
use Rattle.std.proofs.lemmas.Slice.Eq.{bytes_eq-Decides}
use Rattle.std.proofs.lemmas.Map.Text.{is_eq-slice_cmp}
use Rattle.std.proofs.lemmas.Bool.{false≢true}
use Rattle.std.proofs.lemmas.Iterator.Adapters.{position_from-zero}
use Rattle.std.specs.List.{position_from}
use Rattle.std.specs.Ordering.{nat_cmp, eq_by_cmp}
use Rattle.std.specs.Cmp.Lexicographic.{slice_cmp, nat_list_cmp_total}
use Rattle.std.specs.FinMap.{find, get, insert, from_entries, get-from_entries, get-insert, same_map, from_entries_push, slice_cmp-IsAntisymmetric, nat_cmp-IsAntisymmetric, IsAntisymmetric}
use Rattle.std.specs.declared.alloc.Global.{Global}
use Rattle.ot_files.specs.Memory.{Entry, content_of}

-- the entry as the content has it
abbrev text_of : Entry → List ℕ × List ℕ
text_of entry = (string_bytes entry.0, entry.1.items)

-- the test by which an entry is looked for
abbrev pub has_name : List ℕ → Entry → Bool
has_name name entry = bytes_eq (string_bytes entry.0) name

-- what is found first at a name
abbrev found : List ℕ → List Entry → Option (List ℕ)
found name entries = find (slice_cmp nat_cmp) name (map text_of entries)

-- two names are one
abbrev same : List ℕ → List ℕ → Bool
same a b = eq_by_cmp (slice_cmp nat_cmp) a b

same-true : (a b : List ℕ) → a ≡ b → same a b ≡ true
same-true a b e = is_eq-slice_cmp a b ∙ (bytes_eq-Decides a b).1 e

eq_of_same : (a b : List ℕ) → same a b ≡ true → a ≡ b
eq_of_same a b e = (bytes_eq-Decides a b).0 (sym (is_eq-slice_cmp a b) ∙ e)

false_of : (b : Bool) → b ≢ true → b ≡ false
false_of true h = absurd (h refl)
false_of false h = refl

cond_same : {A : Type 0} (b : Bool) (x y z : A) → cond b x (cond b y z) ≡ cond b x z
cond_same true x y z = refl
cond_same false x y z = refl

cond_apart : {A : Type 0} (a b : Bool) (x y z : A) → (a ≡ true → b ≡ true → ⊥) → cond a x (cond b y z) ≡ cond b y (cond a x z)
cond_apart true true x y z h = absurd (h refl refl)
cond_apart true false x y z h = refl
cond_apart false b x y z h = refl

-- the entry at this place is the first with the name
record IsFirst (name : List ℕ) (entries : List Entry) (place : ℕ) : Type 0 where
  bound : place < length entries
  value : (entry : Entry) → found name entries ≡ Some (get_or entries place entry).1.items
  changed : (entry : Entry) (bytes : Vec ℕ Global) (q : List ℕ) → found q (set entries place ((get_or entries place entry).0, bytes)) ≡ cond (same q name) (Some bytes.items) (found q entries)

first_here : (name : List ℕ) (e : Entry) (entries : List Entry) → string_bytes e.0 ≡ name → IsFirst name (e ∷ entries) 0
first_here name e entries is = record {
  bound = omega arith;
  value = λ entry. ap (λ b. cond b (Some e.1.items) (found name entries)) (same-true name (string_bytes e.0) (sym is));
  changed = λ entry bytes q. ap (λ n. cond (same q n) (Some bytes.items) (found q entries)) is
      ∙ sym (ap (λ n. cond (same q name) (Some bytes.items) (cond (same q n) (Some e.1.items) (found q entries))) is ∙ cond_same (same q name) _ _ _);
}

first_later : (name : List ℕ) (e : Entry) (entries : List Entry) (place : ℕ) → string_bytes e.0 ≢ name → IsFirst name entries place → IsFirst name (e ∷ entries) (suc place)
first_later name e entries place other h = record {
  bound = omega (arith, h.bound);
  value = λ entry. ap (λ b. cond b (Some e.1.items) (found name entries)) (false_of _ (λ t. other (sym (eq_of_same name (string_bytes e.0) t)))) ∙ h.value entry;
  changed = λ entry bytes q. ap (λ o. cond (same q (string_bytes e.0)) (Some e.1.items) o) (h.changed entry bytes q)
      ∙ cond_apart (same q (string_bytes e.0)) (same q name) _ _ _ (λ a b. other (sym (eq_of_same q (string_bytes e.0) a) ∙ eq_of_same q name b));
}

-- what a search that counts from k answers
abbrev IsPlace : List ℕ → List Entry → ℕ → Option ℕ → Type 0
IsPlace name entries k r = MatchOption r (found name entries ≡ None) (λ i. (place : ℕ) × (i ≡ k + place) × IsFirst name entries place)

place_later : (name : List ℕ) (e : Entry) (entries : List Entry) (k : ℕ) (r : Option ℕ) → string_bytes e.0 ≢ name → IsPlace name entries (k + 1) r → IsPlace name (e ∷ entries) k r
place_later name e entries k None other h = ap (λ b. cond b (Some e.1.items) (found name entries)) (false_of _ (λ t. other (sym (eq_of_same name (string_bytes e.0) t)))) ∙ h
place_later name e entries k (Some i) other h = (suc h.0, omega (arith, h.1), first_later name e entries h.0 other h.2)

place_by : (name : List ℕ) (e : Entry) (entries : List Entry) (k : ℕ) (b : Bool) (r : Option ℕ) → has_name name e ≡ b → IsPlace name entries (k + 1) r → IsPlace name (e ∷ entries) k (cond b (Some k) r)
place_by name e entries k true r is h = (0, omega arith, first_here name e entries ((bytes_eq-Decides (string_bytes e.0) name).0 is))
place_by name e entries k false r is h = place_later name e entries k r (λ t. false≢true (sym is ∙ (bytes_eq-Decides (string_bytes e.0) name).1 t)) h

is_place_from : (name : List ℕ) (entries : List Entry) (k : ℕ) → IsPlace name entries k (position_from (has_name name) k entries)
is_place_from name [] k = refl
is_place_from name (e ∷ entries) k = place_by name e entries k _ _ refl (is_place_from name entries (k + 1))

is_place : (name : List ℕ) (entries : List Entry) (r : Option ℕ) → r ≡ position (has_name name) entries → IsPlace name entries 0 r
is_place name entries r is = subst (IsPlace name entries 0) (sym (is ∙ position_from-zero (has_name name) entries)) (is_place_from name entries 0)

names_exact : IsAntisymmetric (slice_cmp nat_cmp)
names_exact = slice_cmp-IsAntisymmetric nat_cmp-IsAntisymmetric

get_found : (entries : List Entry) (q : List ℕ) → get (content_of entries) q ≡ found q entries
get_found entries q = get-from_entries nat_list_cmp_total (map text_of entries) q

-- no entry has the name
pub get_absent : (name : List ℕ) (entries : List Entry) → None ≡ position (has_name name) entries → get (content_of entries) name ≡ None
get_absent name entries is = get_found entries name ∙ is_place name entries None is

-- the first entry with the name is at this place
first_at : (name : List ℕ) (entries : List Entry) (place : ℕ) → Some place ≡ position (has_name name) entries → IsFirst name entries place
first_at name entries place is =
    let h = is_place name entries (Some place) is in
    subst (IsFirst name entries) (sym (h.1 ∙ zero-add h.0)) h.2

pub get_present : (name : List ℕ) (entries : List Entry) (place : ℕ) (x : Entry) → Some place ≡ position (has_name name) entries → x ≡ get_or entries place x → get (content_of entries) name ≡ Some x.1.items
get_present name entries place x is at =
    get_found entries name ∙ (first_at name entries place is).value x ∙ ap (λ (e : Entry). Some e.1.items) (sym at)

-- to replace what the first entry with the name holds
pub content_of-set : (name : List ℕ) (entries : List Entry) (place : ℕ) (x : Entry) (bytes : Vec ℕ Global) (held : List ℕ) → Some place ≡ position (has_name name) entries → x ≡ get_or entries place x → bytes.items ≡ held → content_of (set entries place (x.0, bytes)) ≡ insert (content_of entries) name held
content_of-set name entries place x bytes held is at eq =
    same_map nat_list_cmp_total names_exact _ _ (λ q.
    get_found (set entries place (x.0, bytes)) q
    ∙ ap (λ (e : Entry). found q (set entries place (e.0, bytes))) at
    ∙ (first_at name entries place is).changed x bytes q
    ∙ ap (λ o. cond (same q name) (Some bytes.items) o) (sym (get_found entries q))
    ∙ ap (λ bs. cond (same q name) (Some bs) (get (content_of entries) q)) eq
    ∙ sym (get-insert nat_list_cmp_total (content_of entries) name held q))

-- to add an entry whose name is new
pub content_of-push : (name : List ℕ) (entries : List Entry) (x : Entry) (held : List ℕ) → None ≡ position (has_name name) entries → string_bytes x.0 ≡ name → x.1.items ≡ held → content_of (entries ++ x ∷ []) ≡ insert (content_of entries) name held
content_of-push name entries x held is named eq =
    ap from_entries (map-append text_of entries (x ∷ []))
    ∙ from_entries_push nat_list_cmp_total names_exact (map text_of entries) (string_bytes x.0) x.1.items (ap (λ n. found n entries) named ∙ is_place name entries None is)
    ∙ ap₂ (insert (content_of entries)) named eq
