-- What a list of functions says of an object's places.
use Rattle.std.proofs.Common.{◌≡◌, ◌⊎◌, inl, inr, ℕ, ◌+◌, ◌-◌, ◌<◌, ◌≤◌, Bool, true, false, ◌&&◌, eqb, ltb, leb, is_some, List, [], ◌∷◌, ◌++◌, length, Option, Some, None, option_and_then, arith, refl, sym, ap, subst, ◌∙◌}
use Rattle.std.specs.List.{Contains}
use Rattle.std.specs.Ordering.{nat_cmp, ordering_then, is_lt}
use Rattle.std.proofs.lemmas.Bool.{cases_lt, ltb-true, lt-ltb}
use Rattle.std.proofs.lemmas.Bool.Decides.{nat_tests}
use Rattle.std.proofs.lemmas.List.{get_or_append_left, get_or_push, length_push}
use Rattle.ot_base.specs.declared.place.Place.{Place}
use Rattle.ot_base.specs.Places.{is_before, same_place}
use Rattle.elf_objects.specs.Elf.{Elf}
use Rattle.elf_objects.specs.Contents.{symbol_at}
use Rattle.elf_objects.specs.Below.{least_below}
use Rattle.elf_objects.proofs.LeastBelow.{least_below-some, least_below-none, none-least_below}
use Rattle.symbols_relocs.specs.declared.function.Function.{Function}
use Rattle.symbols_relocs.specs.Functions.{function_at, is_function, is_held_from, is_symbol_at, start_of, starts_at}
use Rattle.symbols_relocs.specs.Lists.{function, no_function, symbol_of, function_symbol, HaveParents, in_function, AreFunctions, AreMerged, AreSame, AreSymbols, HaveSymbols, IsIndexOfSymbol, IsFunction, AreRising}
use Rattle.symbols_relocs.specs.Parts.{parent_of}
use Rattle.symbols_relocs.specs.Places.{earlier}
use Rattle.symbols_relocs.proofs.Least.{some-least_below}
use Rattle.symbols_relocs.proofs.PlaceOrder.{before_is_other, is_same, same_is}

apart : (x : Bool) → x ≡ true → x ≡ false → ⊥
apart true p q = cc
apart false p q = cc

cases : (x : Bool) → (x ≡ true) ⊎ (x ≡ false)
cases true = inl refl
cases false = inr refl

both : (x y : Bool) → x ≡ true → y ≡ true → (x && y) ≡ true
both true y e h = h
both false y e h = cc

first : (x y : Bool) → (x && y) ≡ true → x ≡ true
first true y h = refl
first false y h = cc

second : (x y : Bool) → (x && y) ≡ true → y ≡ true
second true y h = h
second false y h = cc

-- it is enough that the test does not pass
fails : (x : Bool) → (x ≡ true → ⊥) → x ≡ false
fails true h = absurd (h refl)
fails false h = refl

-- the function with an index is told by its start
pub one_index : (fs : List Function) → AreRising fs → (i j : ℕ) → i < length fs → j < length fs → (function fs i).start ≡ (function fs j).start → i ≡ j
one_index fs up i j i_in j_in e = elim (cases_lt i j) [
  | inl lt ↦ absurd (apart _ (is_same (function fs i).start (function fs j).start e) (before_is_other (function fs i).start (function fs j).start (up i j lt j_in)))
  | inr ge ↦ elim (cases_lt j i) [
    | inl lt ↦ absurd (apart _ (is_same (function fs j).start (function fs i).start (sym e)) (before_is_other (function fs j).start (function fs i).start (up j i lt i_in)))
    | inr le ↦ omega arith
  ]
]

module _ (o : Elf) (place : Place) (k : ℕ) (h : is_symbol_at o place k ≡ true) where
  its_function : is_function o k ≡ true
  its_function = first (is_function o k) (same_place (start_of o k) place) h

  its_start : start_of o k ≡ place
  its_start = same_is (start_of o k) place (second (is_function o k) (same_place (start_of o k) place) h)

symbol_there : (o : Elf) (place : Place) (k : ℕ) → is_function o k ≡ true → start_of o k ≡ place → is_symbol_at o place k ≡ true
symbol_there o place k some e = both (is_function o k) (same_place (start_of o k) place) some (is_same (start_of o k) place e)

passes_some : (p : ℕ → Bool) (n k : ℕ) (found : Option ℕ) → least_below p n ≡ found → k < n → p k ≡ true → is_some found ≡ true
passes_some p n k None e inside h = absurd (apart (p k) h (least_below-none p n e k inside))
passes_some p n k (Some j) e inside h = refl

-- where none is found or what is found cannot be, there is none
some_fails : (p : ℕ → Bool) (n : ℕ) (found : Option ℕ) → least_below p n ≡ found → ((k : ℕ) → k < n → p k ≡ true → ⊥) → is_some found ≡ false
some_fails p n None e h = refl
some_fails p n (Some k) e h = let w = least_below-some p n k e in absurd (h k w.below w.passes)

-- ---- a place that is held

sec_of : (a b c d s : ℕ) → (eqb a c && (leb b d && ltb d (b + s))) ≡ true → a ≡ c
sec_of a b c d s h = grind (arith, nat_tests)

from_of : (a b c d s : ℕ) → (eqb a c && (leb b d && ltb d (b + s))) ≡ true → b ≤ d
from_of a b c d s h = grind (arith, nat_tests)

to_of : (a b c d s : ℕ) → (eqb a c && (leb b d && ltb d (b + s))) ≡ true → d < b + s
to_of a b c d s h = grind (arith, nat_tests)

held : (a b c d s : ℕ) → a ≡ c → b ≤ d → d < b + s → (eqb a c && (leb b d && ltb d (b + s))) ≡ true
held a b c d s e f g = grind (arith, nat_tests)

pub holds_sec : (f : Function) (place : Place) → in_function f place ≡ true → f.start.sec ≡ place.sec
holds_sec f place h = sec_of f.start.sec f.start.off place.sec place.off f.size h

pub holds_from : (f : Function) (place : Place) → in_function f place ≡ true → f.start.off ≤ place.off
holds_from f place h = from_of f.start.sec f.start.off place.sec place.off f.size h

pub holds_to : (f : Function) (place : Place) → in_function f place ≡ true → place.off < f.start.off + f.size
holds_to f place h = to_of f.start.sec f.start.off place.sec place.off f.size h

it_holds : (f : Function) (place : Place) → f.start.sec ≡ place.sec → f.start.off ≤ place.off → place.off < f.start.off + f.size → in_function f place ≡ true
it_holds f place e g h = held f.start.sec f.start.off place.sec place.off f.size e g h

place_is : (p : Place) (sec off : ℕ) → p.sec ≡ sec → p.off ≡ off → p ≡ record { sec = sec; off = off }
place_is p sec off e f = rw (← e, ← f) refl

not_before : (a b c d : ℕ) → a ≡ c → d < b → is_lt (ordering_then (nat_cmp a c) (nat_cmp b d)) ≡ true → ⊥
not_before a b c d e f h = grind (arith, nat_tests)

-- ---- the functions of an object

module _ (o : Elf) (fs : List Function) (all : AreFunctions o fs) where
  pub starts_here : (i : ℕ) (place : Place) → i < length fs → (function fs i).start ≡ place → starts_at o place ≡ Some (symbol_of fs i)
  starts_here i place inside e = let w = all.each i inside in rw (← e) w.sym

  pub starts_nowhere : (place : Place) → ((k : ℕ) → k < length fs → same_place (function fs k).start place ≡ false) → starts_at o place ≡ None
  starts_nowhere place none = none-least_below (is_symbol_at o place) (length o.symbols) (λ k low. fails (is_symbol_at o place k) (λ h.
      let w = all.all k low (its_function o place k h) in
      apart (same_place (function fs w.0).start place) (is_same (function fs w.0).start place (w.2 ∙ its_start o place k h)) (none w.0 w.1)))

  pub known_symbols : HaveSymbols o fs
  known_symbols i inside = let w = all.each i inside in (least_below-some (is_symbol_at o (function fs i).start) (length o.symbols) (function fs i).sym w.sym).below

  -- a function holds the place from so many bytes before
  record Holder (place : Place) (bytes : ℕ) : Type 0 where
    index : ℕ
    inside : index < length fs
    start : (function fs index).start ≡ earlier place bytes
    holds_it : bytes < (function fs index).size

  holder_of : (place : Place) (bytes k : ℕ) → k < length o.symbols → (is_symbol_at o (earlier place bytes) k && ltb bytes (symbol_at o k).size) ≡ true → Holder place bytes
  holder_of place bytes k low h =
      let here = first (is_symbol_at o (earlier place bytes) k) (ltb bytes (symbol_at o k).size) h in
      let more : bytes < (symbol_at o k).size = ltb-true bytes (symbol_at o k).size (second (is_symbol_at o (earlier place bytes) k) (ltb bytes (symbol_at o k).size) h) in
      let w = all.all k low (its_function o (earlier place bytes) k here) in
      let start : (function fs w.0).start ≡ earlier place bytes = w.2 ∙ its_start o (earlier place bytes) k here in
      let f = all.each w.0 w.1 in
      let size : (symbol_at o k).size ≤ (function fs w.0).size = f.size.greatest k low (rw start here) in
      record { index = w.0; inside = w.1; start = start; holds_it = omega arith }

  held_by : (place : Place) (bytes : ℕ) → bytes ≤ place.off → (w : Holder place bytes) → in_function (function fs w.index) place ≡ true
  held_by place bytes low w =
      let e : (function fs w.index).start.off ≡ place.off - bytes = ap (λ (p : Place). p.off) w.start in
      let more : bytes < (function fs w.index).size = w.holds_it in
      it_holds (function fs w.index) place (ap (λ (p : Place). p.sec) w.start) (omega arith) (omega arith)

  module _ (place : Place) (none : (k : ℕ) → k < length fs → in_function (function fs k) place ≡ false) where
    not_held : (bytes : ℕ) → bytes < place.off + 1 → is_held_from o place bytes ≡ false
    not_held bytes low = some_fails (λ k. is_symbol_at o (earlier place bytes) k && ltb bytes (symbol_at o k).size) (length o.symbols) (least_below (λ k. is_symbol_at o (earlier place bytes) k && ltb bytes (symbol_at o k).size) (length o.symbols)) refl (λ k inside h.
        let w = holder_of place bytes k inside h in
        apart (in_function (function fs w.index) place) (held_by place bytes (omega arith) w) (none w.index w.inside))

    pub no_function_at : function_at o place ≡ None
    no_function_at = ap (option_and_then (λ bytes. starts_at o (earlier place bytes))) (none-least_below (is_held_from o place) (place.off + 1) not_held)

  module _ (place : Place) (i : ℕ) (inside : i < length fs) (it : in_function (function fs i) place ≡ true) (last : (k : ℕ) → i < k → k < length fs → in_function (function fs k) place ≡ false) where
    far : place.off - (place.off - (function fs i).start.off) ≡ (function fs i).start.off
    far = let h = holds_from (function fs i) place it in omega arith

    start_is : (function fs i).start ≡ earlier place (place.off - (function fs i).start.off)
    start_is = place_is (function fs i).start place.sec (place.off - (place.off - (function fs i).start.off)) (holds_sec (function fs i) place it) (sym far)

    held_here : is_held_from o place (place.off - (function fs i).start.off) ≡ true
    held_here =
        let bytes : ℕ = place.off - (function fs i).start.off in
        let f = all.each i inside in
        let s = f.size in
        let a = holds_from (function fs i) place it in
        let b = holds_to (function fs i) place it in
        let size : (symbol_at o s.symbol).size ≡ (function fs i).size = s.is in
        let P : Place → Type 0 = λ p. is_symbol_at o p s.symbol ≡ true in
        let here : is_symbol_at o (earlier place bytes) s.symbol ≡ true = subst P start_is s.here in
        passes_some (λ k. is_symbol_at o (earlier place bytes) k && ltb bytes (symbol_at o k).size) (length o.symbols) s.symbol (least_below (λ k. is_symbol_at o (earlier place bytes) k && ltb bytes (symbol_at o k).size) (length o.symbols)) refl s.known
        (both (is_symbol_at o (earlier place bytes) s.symbol) (ltb bytes (symbol_at o s.symbol).size) here (lt-ltb bytes (symbol_at o s.symbol).size (omega arith)))

    earlier_than : (j m : ℕ) → j < place.off - (function fs i).start.off → (function fs m).start ≡ earlier place j → is_before (function fs m).start (function fs i).start ≡ true → ⊥
    earlier_than j m low e before =
        let a = holds_from (function fs i) place it in
        let sec : (function fs m).start.sec ≡ (function fs i).start.sec = ap (λ (p : Place). p.sec) e ∙ sym (holds_sec (function fs i) place it) in
        let off : (function fs m).start.off ≡ place.off - j = ap (λ (p : Place). p.off) e in
        not_before (function fs m).start.sec (function fs m).start.off (function fs i).start.sec (function fs i).start.off sec (omega arith) before

    not_nearer : (j : ℕ) → j < place.off - (function fs i).start.off → is_held_from o place j ≡ false
    not_nearer j low = some_fails (λ k. is_symbol_at o (earlier place j) k && ltb j (symbol_at o k).size) (length o.symbols) (least_below (λ k. is_symbol_at o (earlier place j) k && ltb j (symbol_at o k).size) (length o.symbols)) refl (λ k known h.
        let w = holder_of place j k known h in
        let off : (function fs w.index).start.off ≡ place.off - j = ap (λ (p : Place). p.off) w.start in
        let a = holds_from (function fs i) place it in
        elim (cases_lt i w.index) [
          | inl lt ↦ apart (in_function (function fs w.index) place) (held_by place j (omega arith) w) (last w.index lt w.inside)
          | inr ge ↦ elim (cases_lt w.index i) [
            | inl lt ↦ earlier_than j w.index low w.start (all.rising w.index i lt inside)
            | inr le ↦
                let e : w.index ≡ i = omega arith in
                let same : (function fs w.index).start.off ≡ (function fs i).start.off = ap (λ n. (function fs n).start.off) e in
                omega arith
          ]
        ])

    pub function_here : function_at o place ≡ Some (symbol_of fs i)
    function_here =
        let bytes : ℕ = place.off - (function fs i).start.off in
        ap (option_and_then (λ bytes. starts_at o (earlier place bytes))) (some-least_below (is_held_from o place) (place.off + 1) bytes (omega arith) held_here not_nearer)
        ∙ starts_here i (earlier place bytes) inside start_is

-- ---- the functions that symbols make

module _ (o : Elf) (symbols fs : List Function) (s : AreSymbols o (length o.symbols) symbols) (m : AreMerged symbols fs) where
  member_start : (f : Function) → Contains symbols f → f.start ≡ start_of o f.sym
  member_start f has = let w = s.each f has in ap (λ (g : Function). g.start) w.is

  member_size : (f : Function) → Contains symbols f → f.size ≡ (symbol_at o f.sym).size
  member_size f has = let w = s.each f has in ap (λ (g : Function). g.size) w.is

  -- a symbol of a function belongs to the one with its start
  record Covers (i k : ℕ) : Type 0 where
    sym : (function fs i).sym ≤ k
    size : (symbol_at o k).size ≤ (function fs i).size

  covers_symbol : (i k : ℕ) → i < length fs → k < length o.symbols → is_symbol_at o (function fs i).start k ≡ true → Covers i k
  covers_symbol i k inside low h =
      let w = m.covers (function_symbol o k) (s.all k low (its_function o (function fs i).start k h)) in
      let e : w.index ≡ i = one_index fs m.rising w.index i w.inside inside (w.start ∙ its_start o (function fs i).start k h) in
      let a : (function fs w.index).sym ≤ k = w.sym in
      let b : (symbol_at o k).size ≤ (function fs w.index).size = w.size in
      let P : ℕ → Type 0 = λ n. (function fs n).sym ≤ k in
      let Q : ℕ → Type 0 = λ n. (symbol_at o k).size ≤ (function fs n).size in
      record { sym = subst P e a; size = subst Q e b }

  symbol_of_member : (i : ℕ) (f : Function) → Contains symbols f → f.start ≡ (function fs i).start → is_symbol_at o (function fs i).start f.sym ≡ true
  symbol_of_member i f has e = let w = s.each f has in symbol_there o (function fs i).start f.sym w.some (sym (member_start f has) ∙ e)

  each_is : (i : ℕ) → i < length fs → IsFunction o (function fs i)
  each_is i inside =
      let w = m.from i inside in
      let lowest = s.each w.lowest w.has_lowest in
      let largest = s.each w.largest w.has_largest in
      let here : is_symbol_at o (function fs i).start (function fs i).sym ≡ true = rw (← w.lowest_sym) (symbol_of_member i w.lowest w.has_lowest w.lowest_start) in
      let low : (function fs i).sym < length o.symbols = let e : w.lowest.sym ≡ (function fs i).sym = w.lowest_sym in let h = lowest.below in omega arith in
      record {
        sym = some-least_below (is_symbol_at o (function fs i).start) (length o.symbols) (function fs i).sym low here (λ j lower. fails (is_symbol_at o (function fs i).start j) (λ h. let c = covers_symbol i j inside (omega arith) h in let d = c.sym in omega arith));
        size = record {
          symbol = w.largest.sym;
          known = largest.below;
          here = symbol_of_member i w.largest w.has_largest w.largest_start;
          is = sym (member_size w.largest w.has_largest) ∙ w.largest_size;
          greatest = λ k known h. let c = covers_symbol i k inside known h in c.size;
        };
      }

  pub merged_functions : AreFunctions o fs
  merged_functions = record {
    each = each_is;
    all = λ k low some. let w = m.covers (function_symbol o k) (s.all k low some) in (w.index, w.inside, w.start);
    rising = m.rising;
  }

-- ---- the same functions with their parents

module _ (o : Elf) (fs gs : List Function) (all : AreFunctions o fs) (same : AreSame fs gs) where
  pub same_functions : AreFunctions o gs
  same_functions = record {
    each = λ i inside.
        let i_in : i < length fs = let e = same.len in omega arith in
        let w = all.each i i_in in
        let z = w.size in
        record {
          sym = rw (same.start i i_in, same.sym i i_in) w.sym;
          size = rw (same.start i i_in, same.size i i_in) z;
        };
    all = λ k low some. let w = all.all k low some in (w.0, (let e = same.len in let h = w.1 in omega arith), same.start w.0 w.1 ∙ w.2);
    rising = λ i j lt inside.
        let e = same.len in
        let j_in : j < length fs = omega arith in
        let i_in : i < length fs = omega arith in
        rw (same.start i i_in, same.start j j_in) (all.rising i j lt j_in);
  }

-- ---- indices

pub no_index : (fs : List Function) (sym : Option ℕ) → sym ≡ None → IsIndexOfSymbol fs None sym
no_index fs sym e = rw e (record { inside = tt; symbol = refl })

pub an_index : (fs : List Function) (i : ℕ) (sym : Option ℕ) → i < length fs → sym ≡ Some (symbol_of fs i) → IsIndexOfSymbol fs (Some i) sym
an_index fs i sym inside e = rw e (record { inside = inside; symbol = refl })

-- ---- parents

-- the first functions of a list with their parents
pub record HasParent (o : Elf) (fs : List Function) (f g : Function) : Type 0 where
  pub start : g.start ≡ f.start
  pub size : g.size ≡ f.size
  pub sym : g.sym ≡ f.sym
  pub parent : IsIndexOfSymbol fs g.parent (parent_of o f.sym)

pub record HaveParentsTo (o : Elf) (fs : List Function) (n : ℕ) (gs : List Function) : Type 0 where
  pub len : length gs ≡ n
  pub each : (i : ℕ) → i < n → HasParent o fs (function fs i) (function gs i)

pub no_parents : (o : Elf) (fs : List Function) → HaveParentsTo o fs 0 []
no_parents o fs = record { len = refl; each = λ i h. absurd (omega arith) }

pub one_parent : (o : Elf) (fs gs : List Function) (n : ℕ) (g : Function) → HaveParentsTo o fs n gs → HasParent o fs (function fs n) g → HaveParentsTo o fs (n + 1) (gs ++ g ∷ [])
one_parent o fs gs n g s w = record {
  len = let e = s.len in let l = length_push gs g in omega arith;
  each = λ i h. elim (cases_lt i n) [
    | inl lt ↦ let e = s.len in let i_in : i < length gs = omega arith in rw (get_or_append_left gs (g ∷ []) no_function i i_in) (s.each i lt)
    | inr ge ↦ let e : i ≡ n = omega arith in rw (e, get_or_push gs g no_function n s.len) w
  ];
}

module _ (o : Elf) (fs gs : List Function) (s : HaveParentsTo o fs (length fs) gs) where
  pub same_with_parents : AreSame fs gs
  same_with_parents = record {
    len = s.len;
    start = λ i h. let w = s.each i h in w.start;
    size = λ i h. let w = s.each i h in w.size;
    sym = λ i h. let w = s.each i h in w.sym;
  }

  pub same_index : (index : Option ℕ) (sym : Option ℕ) → IsIndexOfSymbol fs index sym → IsIndexOfSymbol gs index sym
  same_index None sym w = record { inside = tt; symbol = w.symbol }
  same_index (Some i) sym w =
      let e = s.len in
      let h : i < length fs = w.inside in
      let m = s.each i h in
      record { inside = omega arith; symbol = ap Some m.sym ∙ w.symbol }

  pub with_all_parents : HaveParents o gs
  with_all_parents i inside =
      let i_in : i < length fs = let e = s.len in omega arith in
      let m = s.each i i_in in
      rw (m.sym) (same_index (function gs i).parent (parent_of o (function fs i).sym) m.parent)
