-- What is known of a layout, with each line that is read.
use Rattle.std.proofs.Common.{◌≡◌, ℕ, zero, suc, ◌+◌, ◌-◌, ◌<◌, ◌≤◌, Bool, true, false, cond, ◌&&◌, ◌||◌, not, List, [], ◌∷◌, ◌++◌, Option, Some, None, Result, Ok, Err, refl, sym, ◌∙◌, ap, subst, eqb, leb, length, get_or, take, map, arith, below_more}
use Rattle.std.proofs.Math.ListN.{set}
use Rattle.std.specs.Prelude.{filter_map, fold, string_bytes}
use Rattle.std.specs.List.{cons_option, list_all, list_any}
use Rattle.std.specs.Result.{result_ok}
use Rattle.std.specs.Ordering.{nat_cmp, is_eq}
use Rattle.std.specs.BTreeSet.{BTreeSet, contains, Updates}
use Rattle.std.specs.Str.{IsUtf8}
use Rattle.std.proofs.lemmas.Bool.{leb-true}
use Rattle.std.proofs.lemmas.Bool.Decides.{nat_tests}
use Rattle.std.proofs.lemmas.List.{get_or-map, length-map, take_more, take_all}
use Rattle.std.proofs.lemmas.List.Elements.{filter_map-append}
use Rattle.std.proofs.lemmas.List.Folds.{list_any-append}
use Rattle.std.proofs.lemmas.Str.{IsUtf8-from_ascii}
use Rattle.ot_base.specs.NamesFile.{lines, is_name, is_name_byte}
use Rattle.orc_walk.proofs.BaseLemmas.{same_key}
use Rattle.orc_merge.specs.declared.faults.LayoutWhy.TheVariants.{Number, Repeated}
use Rattle.orc_merge.specs.declared.faults.LineFault.{LineFault}
use Rattle.orc_merge.specs.declared.faults.LineFault.TheVariants.{Why, NoMemory}
use Rattle.orc_merge.specs.declared.layout.LayoutFile.{LayoutFile}
use Rattle.orc_merge.specs.declared.layout.Reading.{Reading}
use Rattle.orc_merge.specs.LayoutLines.{Said, place, said}
use Rattle.orc_merge.specs.LayoutFile.{FileSaid, new_file, with_place, last_places, with_saying, files_said, saying_fault, fault_behind, line_fault, fault_at, IsLayout, IsLayoutFault}
use Rattle.orc_merge.specs.LayoutReading.{file_of, files_of, Holds, Adds, ReadsLine, IsLineFault, fault_at_line}

and_parts : (a b : Bool) → (a && b) ≡ true → (a ≡ true) × (b ≡ true)
and_parts true b h = (refl, h)
and_parts false b h = absurd (let e : false ≡ true = h in cc)

-- a name is text
low_bytes : (name : List ℕ) → list_all is_name_byte name ≡ true → (i : ℕ) → get_or name i 0 < 128
low_bytes [] h i = omega arith
low_bytes (b ∷ name) h zero =
    let one = and_parts (is_name_byte b) (list_all is_name_byte name) h in
    let two = and_parts (leb 0x21 b) (leb b 0x7E) one.0 in
    let most : b ≤ 0x7E = leb-true b 0x7E two.1 in
    omega arith
low_bytes (b ∷ name) h (suc i) = low_bytes name (and_parts (is_name_byte b) (list_all is_name_byte name) h).1 i

pub name_is_text : (name : List ℕ) → is_name name ≡ true → IsUtf8 name
name_is_text name h = IsUtf8-from_ascii name (low_bytes name (and_parts (not (eqb (length name) 0)) (list_all is_name_byte name) h).1)

-- a file more
files_push : (files : List LayoutFile) (one : LayoutFile) → files_of (files ++ one ∷ []) ≡ files_of files ++ file_of one ∷ []
files_push [] one = refl
files_push (x ∷ files) one = ap (λ xs. file_of x ∷ xs) (files_push files one)

last_of_more : (files : List FileSaid) (one : FileSaid) → last_places (files ++ one ∷ []) ≡ one.places
last_of_more [] one = refl
last_of_more (x ∷ []) one = refl
last_of_more (x ∷ y ∷ files) one = last_of_more (y ∷ files) one

pub file_added : (said_files : List FileSaid) (old new : Reading) (one : LayoutFile) → Holds said_files old → new.files.items ≡ old.files.items ++ one ∷ [] → one.places.items ≡ [] → ((section : ℕ) → contains nat_cmp new.sections section ≡ false) → Holds (said_files ++ new_file (string_bytes one.name) ∷ []) new
file_added said_files old new one is files none empty = record {
  files =
      ap files_of files ∙ files_push old.files.items one ∙ ap (λ xs. xs ++ file_of one ∷ []) is.files
      ∙ ap (λ (places : List (ℕ × ℕ)). said_files ++ record { name = string_bytes one.name; places = places } ∷ []) none;
  sections = λ section. empty section ∙ sym (ap (list_any (λ other. eqb other.0 section)) (last_of_more said_files (new_file (string_bytes one.name))));
}

-- a place more
places_added : (files : List LayoutFile) (k : ℕ) (one new : LayoutFile) (at : ℕ × ℕ) → k + 1 ≡ length files → get_or files k one ≡ one → file_of new ≡ record { name = (file_of one).name; places = (file_of one).places ++ at ∷ [] } → files_of (set files k new) ≡ with_place (files_of files) at
places_added [] k one new at long is made = absurd (omega arith)
places_added (x ∷ []) zero one new at long is made = ap (λ f. f ∷ []) (made ∙ ap (λ (f : LayoutFile). record { name = (file_of f).name; places = (file_of f).places ++ at ∷ [] }) (sym is))
places_added (x ∷ []) (suc k) one new at long is made = absurd (omega arith)
places_added (x ∷ y ∷ files) zero one new at long is made = absurd (omega arith)
places_added (x ∷ y ∷ files) (suc k) one new at long is made = ap (λ fs. file_of x ∷ fs) (places_added (y ∷ files) k one new at (omega arith) is made)

last_with_place : (files : List FileSaid) (at : ℕ × ℕ) → 0 < length files → last_places (with_place files at) ≡ last_places files ++ at ∷ []
last_with_place [] at some = absurd (omega arith)
last_with_place (x ∷ []) at some = refl
last_with_place (x ∷ y ∷ []) at some = refl
last_with_place (x ∷ y ∷ z ∷ files) at some = last_with_place (y ∷ z ∷ files) at (omega arith)

not_zero : (n : ℕ) → 0 < n → eqb n 0 ≡ false
not_zero n some = grind (arith, nat_tests)

files_there : (said_files : List FileSaid) (r : Reading) → Holds said_files r → length said_files ≡ length r.files.items
files_there said_files r is = sym (ap length is.files) ∙ length-map r.files.items file_of

pub not_again : (is_new found : Bool) → is_new ≡ not found → is_new ≡ true → found ≡ false
not_again is_new true is h = absurd (let e : false ≡ true = sym is ∙ h in cc)
not_again is_new false is h = refl

pub new_has_none : (sections : BTreeSet ℕ) → sections.keys ≡ [] → (section : ℕ) → contains nat_cmp sections section ≡ false
new_has_none sections empty section = ap (list_any (λ k. is_eq (nat_cmp section k))) empty

abbrev pub with_places : List ℕ → List (ℕ × ℕ) → FileSaid
with_places name places = record { name = name; places = places }

-- of a section that no place of the last file has
pub place_fits : (said_files : List FileSaid) (r : Reading) (section base : ℕ) → Holds said_files r → 0 < length r.files.items → contains nat_cmp r.sections section ≡ false → saying_fault said_files (place section base) ≡ None
place_fits said_files r section base is some new =
    ap (λ (b : Bool). cond b (Some Number) (cond (list_any (λ other. eqb other.0 section) (last_places said_files)) (Some Repeated) None)) (not_zero (length said_files) (subst (λ n. 0 < n) (sym (files_there said_files r is)) some))
    ∙ ap (λ (b : Bool). cond b (Some Repeated) None) (sym (is.sections section) ∙ new)

any_more : (places : List (ℕ × ℕ)) (section base s : ℕ) → cond (eqb section s) true (list_any (λ (other : ℕ × ℕ). eqb other.0 s) places) ≡ list_any (λ (other : ℕ × ℕ). eqb other.0 s) (places ++ (section, base) ∷ [])
any_more places section base s =
    go (eqb section s) (list_any (λ (other : ℕ × ℕ). eqb other.0 s) places)
    ∙ sym (list_any-append (λ (other : ℕ × ℕ). eqb other.0 s) places ((section, base) ∷ []))
  where
    go : (a b : Bool) → cond a true b ≡ (b || (a || false))
    go true true = refl
    go true false = refl
    go false true = refl
    go false false = refl

pub place_held : (said_files : List FileSaid) (old new : Reading) (section base k : ℕ) (one made : LayoutFile) → Holds said_files old → k + 1 ≡ length old.files.items → get_or old.files.items k one ≡ one → new.files.items ≡ set old.files.items k made → file_of made ≡ record { name = (file_of one).name; places = (file_of one).places ++ (section, base) ∷ [] } → Updates nat_cmp old.sections new.sections section true → Holds (with_place said_files (section, base)) new
place_held said_files old new section base k one made is long at changed is_made updates = record {
  files = ap files_of changed ∙ places_added old.files.items k one made (section, base) long at is_made ∙ ap (λ fs. with_place fs (section, base)) is.files;
  sections = λ s.
      updates.0 s
      ∙ ap (λ b. cond b true (contains nat_cmp old.sections s)) (same_key section s)
      ∙ ap (λ b. cond (eqb section s) true b) (is.sections s)
      ∙ any_more (last_places said_files) section base s
      ∙ sym (ap (list_any (λ (other : ℕ × ℕ). eqb other.0 s)) (last_with_place said_files (section, base) (let there = files_there said_files old is in omega arith)));
}

-- what one more line says
append_nil : {X : Type 0} (xs : List X) → xs ++ [] ≡ xs
append_nil [] = refl
append_nil (x ∷ xs) = ap (λ ys. x ∷ ys) (append_nil xs)

kept : {X Y : Type 0} (f : X → Option Y) (xs : List X) (x : X) (y : Y) → f x ≡ Some y → filter_map f (xs ++ x ∷ []) ≡ filter_map f xs ++ y ∷ []
kept f xs x y some = filter_map-append f xs (x ∷ []) ∙ ap (λ o. filter_map f xs ++ cons_option o []) some

fold-push : {A B : Type 0} (f : B → A → B) (a : B) (xs : List A) (x : A) → fold f a (xs ++ x ∷ []) ≡ f (fold f a xs) x
fold-push f a [] x = refl
fold-push f a (y ∷ xs) x = fold-push f (f a y) xs x

said_more : (earlier : List (List ℕ)) (line : List ℕ) (saying : Said) → said line ≡ Ok saying → files_said (earlier ++ line ∷ []) ≡ with_saying (files_said earlier) saying
said_more earlier line saying is =
    ap (fold with_saying []) (kept (λ line. result_ok (said line)) earlier line saying (ap result_ok is))
    ∙ fold-push with_saying [] (filter_map (λ line. result_ok (said line)) earlier) saying

-- a line that says something that is added
pub reads : (earlier : List (List ℕ)) (line : List ℕ) (saying : Said) (new : Reading) (result : Result (Unit {0}) LineFault) → said line ≡ Ok saying → Adds (files_said earlier) saying new result → ReadsLine earlier line new result
reads earlier line saying new (Ok done) is adds = (ap (fault_behind (files_said earlier)) is ∙ adds.0, subst (λ files. Holds files new) (sym (said_more earlier line saying is)) adds.1)
reads earlier line saying new (Err (Why why)) is adds = ap (fault_behind (files_said earlier)) is ∙ adds
reads earlier line saying new (Err NoMemory) is adds = tt

module _ {K : Type 0} (text : K → List ℕ) (xs : List K) where
  -- a line by its place
  line_at : (i : ℕ) (d : K) → i < length xs → fault_at (map text xs) i ≡ line_fault (take i (map text xs)) (text (get_or xs i d))
  line_at i d lt = ap (line_fault (take i (map text xs))) (get_or-map text xs i d [] lt)

  -- the next line is without fault too
  pub no_fault_more : (i : ℕ) (d : K) → i < length xs → ((k : ℕ) → k < i → fault_at (map text xs) k ≡ None) → line_fault (take i (map text xs)) (text (get_or xs i d)) ≡ None → (k : ℕ) → k < i + 1 → fault_at (map text xs) k ≡ None
  no_fault_more i d lt below here = below_more (λ k. fault_at (map text xs) k ≡ None) i below (line_at i d lt ∙ here)

  -- and what it says is read
  pub holds_more : (i : ℕ) (d : K) (new : Reading) → i < length xs → Holds (files_said (take i (map text xs) ++ text (get_or xs i d) ∷ [])) new → Holds (files_said (take (i + 1) (map text xs))) new
  holds_more i d new lt is =
      let shorter : i < length (map text xs) = subst (λ n. i < n) (sym (length-map xs text)) lt in
      subst (λ ls. Holds (files_said ls) new) (sym (take_more (map text xs) i [] shorter ∙ ap (λ line. take i (map text xs) ++ line ∷ []) (get_or-map text xs i d [] lt))) is

  -- the first line that isn't read
  pub first_fault : (bytes : List ℕ) (i : ℕ) (d : K) (fault : LineFault) → map text xs ≡ lines bytes → i < length xs → ((k : ℕ) → k < i → fault_at (map text xs) k ≡ None) → IsLineFault (line_fault (take i (map text xs)) (text (get_or xs i d))) fault → IsLayoutFault bytes (fault_at_line (i + 1) fault)
  first_fault bytes i d (Why why) same lt below here =
      let shorter : i + 1 ≤ length (lines bytes) = subst (λ ls. i + 1 ≤ length ls) same (subst (λ n. i + 1 ≤ n) (sym (length-map xs text)) (omega arith)) in
      let at : i ≡ i + 1 - 1 = omega arith in
      record {
        counted = omega arith;
        there = shorter;
        fault = ap (fault_at (lines bytes)) (sym at) ∙ ap (λ ls. fault_at ls i) (sym same) ∙ line_at i d lt ∙ here;
        first = λ k less. ap (λ ls. fault_at ls k) (sym same) ∙ below k (omega arith);
      }
  first_fault bytes i d NoMemory same lt below here = tt

  -- all lines are read
  pub all_read : (bytes : List ℕ) (i : ℕ) (r : Reading) → map text xs ≡ lines bytes → length xs ≤ i → Holds (files_said (take i (map text xs))) r → Holds (files_said (lines bytes)) r
  all_read bytes i r same end is = subst (λ ls. Holds (files_said ls) r) (take_all i (map text xs) (subst (λ n. n ≤ i) (sym (length-map xs text)) end) ∙ same) is

  pub no_fault_at_all : (bytes : List ℕ) (i : ℕ) → map text xs ≡ lines bytes → length xs ≤ i → ((k : ℕ) → k < i → fault_at (map text xs) k ≡ None) → IsLayout bytes
  no_fault_at_all bytes i same end below k lt =
      let long : length (map text xs) ≡ length xs = length-map xs text in
      let whole : length (lines bytes) ≡ length xs = sym (ap length same) ∙ long in
      ap (λ ls. fault_at ls k) (sym same) ∙ below k (omega arith)
