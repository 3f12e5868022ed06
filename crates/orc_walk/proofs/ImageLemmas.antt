-- What is known of a text, with each line that is read and behind the last.
use Rattle.std.proofs.Common.{◌≡◌, ℕ, ◌+◌, ◌-◌, ◌<◌, ◌≤◌, List, [], ◌∷◌, ◌++◌, None, Result, Ok, Err, sym, ◌∙◌, ap, subst, inl, inr, length, get_or, take, map, arith, below_more}
use Rattle.std.specs.Prelude.{IfOk, IfErr}
use Rattle.std.proofs.lemmas.List.{get_or-map, length-map, take_more, take_all}
use Rattle.orc_walk.specs.declared.image_fault.ImageFault.{ImageFault}
use Rattle.orc_walk.specs.declared.image_fault.ImageFault.TheVariants.{Line, NoMemory as NoImage}
use Rattle.orc_walk.specs.declared.image_fault.LineFault.{LineFault}
use Rattle.orc_walk.specs.declared.image_fault.LineFault.TheVariants.{Why, NoMemory}
use Rattle.orc_walk.specs.declared.reading.Reading.{Reading}
use Rattle.orc_walk.specs.Lines.{lines}
use Rattle.orc_walk.specs.ImageFile.{StackImage, sayings, line_fault, fault_at, HasNoFault, IsImageFault, IsImage}
use Rattle.orc_walk.specs.Reading.{Holds, Finishes, IsLineFault, fault_at_line}

module _ {K : Type 0} (text : K → List ℕ) (xs : List K) where
  -- a line by its place
  line_at : (i : ℕ) (d : K) → i < length xs → fault_at (map text xs) i ≡ line_fault (take i (map text xs)) (text (get_or xs i d))
  line_at i d lt = ap (line_fault (take i (map text xs))) (get_or-map text xs i d [] lt)

  -- the next line is without fault too
  pub no_fault_more : (i : ℕ) (d : K) → i < length xs → ((k : ℕ) → k < i → fault_at (map text xs) k ≡ None) → line_fault (take i (map text xs)) (text (get_or xs i d)) ≡ None → (k : ℕ) → k < i + 1 → fault_at (map text xs) k ≡ None
  no_fault_more i d lt below here = below_more (λ k. fault_at (map text xs) k ≡ None) i below (line_at i d lt ∙ here)

  -- and what it says is read
  pub holds_more : (i : ℕ) (d : K) (new : Reading) → i < length xs → Holds (sayings (take i (map text xs) ++ text (get_or xs i d) ∷ [])) new → Holds (sayings (take (i + 1) (map text xs))) new
  holds_more i d new lt is =
      let shorter : i < length (map text xs) = subst (λ n. i < n) (sym (length-map xs text)) lt in
      subst (λ ls. Holds (sayings ls) new) (sym (take_more (map text xs) i [] shorter ∙ ap (λ line. take i (map text xs) ++ line ∷ []) (get_or-map text xs i d [] lt))) is

  -- the first line that isn't read
  pub first_fault : (bytes : List ℕ) (i : ℕ) (d : K) (fault : LineFault) → map text xs ≡ lines bytes → i < length xs → ((k : ℕ) → k < i → fault_at (map text xs) k ≡ None) → IsLineFault (line_fault (take i (map text xs)) (text (get_or xs i d))) fault → IsImageFault bytes (fault_at_line (i + 1) fault)
  first_fault bytes i d (Why why) same lt below here =
      let shorter : i + 1 ≤ length (lines bytes) = subst (λ ls. i + 1 ≤ length ls) same (subst (λ n. i + 1 ≤ n) (sym (length-map xs text)) (omega arith)) in
      let place : i ≡ i + 1 - 1 = omega arith in
      inl (record {
        counted = omega arith;
        there = shorter;
        fault = ap (fault_at (lines bytes)) (sym place) ∙ ap (λ ls. fault_at ls i) (sym same) ∙ line_at i d lt ∙ here;
        first = λ k less. ap (λ ls. fault_at ls k) (sym same) ∙ below k (omega arith);
      })
  first_fault bytes i d NoMemory same lt below here = tt

  -- all lines are read
  pub all_read : (bytes : List ℕ) (i : ℕ) (r : Reading) → map text xs ≡ lines bytes → length xs ≤ i → Holds (sayings (take i (map text xs))) r → Holds (sayings (lines bytes)) r
  all_read bytes i r same end is = subst (λ ls. Holds (sayings ls) r) (take_all i (map text xs) (subst (λ n. n ≤ i) (sym (length-map xs text)) end) ∙ same) is

  pub no_fault_at_all : (bytes : List ℕ) (i : ℕ) → map text xs ≡ lines bytes → length xs ≤ i → ((k : ℕ) → k < i → fault_at (map text xs) k ≡ None) → HasNoFault (lines bytes)
  no_fault_at_all bytes i same end below = subst HasNoFault same (λ k lt. below k (let long : length (map text xs) ≡ length xs = length-map xs text in omega arith))

  pub line_behind : (bytes : List ℕ) → map text xs ≡ lines bytes → length xs + 1 ≡ length (lines bytes) + 1
  line_behind bytes same = ap (λ n. n + 1) (sym (length-map xs text) ∙ ap length same)

-- the image
pub image_said : (bytes : List ℕ) (line : ℕ) (r : Result StackImage ImageFault) → HasNoFault (lines bytes) → Finishes (sayings (lines bytes)) line r → IfOk r (IsImage bytes)
image_said bytes line (Ok image) none is = record { no_fault = none; says = is }
image_said bytes line (Err fault) none is = tt

-- or that no line says the registers
pub registers_lacked : (bytes : List ℕ) (line : ℕ) (r : Result StackImage ImageFault) → line ≡ length (lines bytes) + 1 → HasNoFault (lines bytes) → Finishes (sayings (lines bytes)) line r → IfErr r (IsImageFault bytes)
registers_lacked bytes line (Ok image) behind none is = tt
registers_lacked bytes line (Err (Line at why)) behind none is = inr (record { no_fault = none; none = is.0; behind = is.1 ∙ behind; why_is = is.2 })
registers_lacked bytes line (Err NoImage) behind none is = tt
