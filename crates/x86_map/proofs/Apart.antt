-- No two forms of an opcode fit at once.
use Rattle.std.proofs.Common.{◌≡◌, ℕ, ◌+◌, ◌<◌, Bool, true, false, cond, List, [], ◌∷◌, get_or, length, refl, sym, ◌∙◌, arith, inl, inr, zero, suc}
use Rattle.std.specs.Prelude.{◌&&◌, ◌||◌, not, Option, Some, None, IfSome}
use Rattle.std.specs.List.{list_all, range_with_len, AllByRecursion}
use Rattle.std.proofs.lemmas.Bool.{not-true}
use Rattle.std.proofs.lemmas.List.FromFn.{get_or-range_with_len, length-range_with_len}
use Rattle.x86_map.specs.declared.map.Map.{Map}
use Rattle.x86_map.specs.declared.prefixes.Prefixes.{Prefixes}
use Rattle.x86_map.specs.declared.shape.Shape.{Shape}
use Rattle.x86_map.specs.declared.shape.Look.TheVariants.{Refused, NeedModrm, Fits}
use Rattle.x86_map.specs.declared.form.PrefixUse.{PrefixUse}
use Rattle.x86_map.specs.declared.form.PrefixUse.TheVariants.{Allowed, Required, Forbidden}
use Rattle.x86_map.specs.declared.form.PrefixUses.{PrefixUses}
use Rattle.x86_map.specs.declared.form.Operand.{Operand}
use Rattle.x86_map.specs.declared.form.Form.{Form}
use Rattle.x86_map.specs.Prefixes.{rex_b, under_66, under_F3, under_F2}
use Rattle.x86_map.specs.Form.{allows, accepts, takes, has_modrm, shape_of, look_operand, look_form}
use Rattle.x86_map.specs.OpcodeMap.{forms_at}
use Rattle.x86_map.specs.Apart.{FitsOnce, FormsAreApart}
use Rattle.x86_map.proofs.Accepting.{and_left, and_right, or_true}
use Rattle.x86_map.proofs.EachOpcode.{conflict, uses_apart, takes_modrm, may_answer, apart_from, all_apart, are_apart, is_uniform, each_opcode}
use Rattle.x86_map.proofs.Modrm.{refused_form, accepted_form}

-- ---- uses of prefixes that no prefixes meet both

conflict-allows : (r q : PrefixUse) (b : Bool) → conflict r q ≡ true → allows r b ≡ true → allows q b ≡ false
conflict-allows Required Forbidden b h a = rw a
conflict-allows Required Allowed b h a = absurd cc
conflict-allows Required Required b h a = absurd cc
conflict-allows Forbidden Required true h a = absurd cc
conflict-allows Forbidden Required false h a = refl
conflict-allows Forbidden Allowed b h a = absurd cc
conflict-allows Forbidden Forbidden b h a = absurd cc
conflict-allows Allowed q b h a = absurd cc

record Accepted (r : PrefixUses) (p : Prefixes) : Type 0 where
  of_66 : allows r.of_66 (under_66 p) ≡ true
  of_f3 : allows r.of_f3 (under_F3 p) ≡ true
  of_f2 : allows r.of_f2 (under_F2 p) ≡ true
  rex : allows r.of_rex_b (rex_b p) ≡ true

accepted : (r : PrefixUses) (p : Prefixes) → accepts r p ≡ true → Accepted r p
accepted r p h =
    let o = allows r.of_66 (under_66 p) in
    let a = allows r.of_67 p.has_67 in
    let f = allows r.of_f3 (under_F3 p) in
    let n = allows r.of_f2 (under_F2 p) in
    let x = allows r.of_rex_b (rex_b p) in
    let four = and_left (o && a && f && n) x h in
    let three = and_left (o && a && f) n four in
    let two = and_left (o && a) f three in
    record { of_66 = and_left o a two; of_f3 = and_right (o && a) f three; of_f2 = and_right (o && a && f) n four; rex = and_right (o && a && f && n) x h }

-- of two such uses the second refuses what the first accepts
refused_by_uses : (r q : PrefixUses) (p : Prefixes) → uses_apart r q ≡ true → accepts r p ≡ true → accepts q p ≡ false
refused_by_uses r q p apart h =
    let a = accepted r p h in
    elim (accepts q p) as (λ b. accepts q p ≡ b → b ≡ false) [
      | false ↦ λ e. refl
      | true ↦ λ e.
          let c = accepted q p e in
          elim (or_true (conflict r.of_66 q.of_66) (conflict r.of_f3 q.of_f3 || (conflict r.of_f2 q.of_f2 || conflict r.of_rex_b q.of_rex_b)) apart) [
            | inl k ↦ let no_66 = conflict-allows r.of_66 q.of_66 (under_66 p) k a.of_66 in absurd cc
            | inr k ↦ elim (or_true (conflict r.of_f3 q.of_f3) (conflict r.of_f2 q.of_f2 || conflict r.of_rex_b q.of_rex_b) k) [
              | inl k ↦ let no_f3 = conflict-allows r.of_f3 q.of_f3 (under_F3 p) k a.of_f3 in absurd cc
              | inr k ↦ elim (or_true (conflict r.of_f2 q.of_f2) (conflict r.of_rex_b q.of_rex_b) k) [
                | inl k ↦ let no_f2 = conflict-allows r.of_f2 q.of_f2 (under_F2 p) k a.of_f2 in absurd cc
                | inr k ↦ let no_rex = conflict-allows r.of_rex_b q.of_rex_b (rex_b p) k a.rex in absurd cc
              ]
            ]
          ]
    ] refl

apart_at : (m : Map) (number opcode : ℕ) → 0 < number → number < 13 → opcode < 256 → are_apart (forms_at m number opcode) ≡ true
apart_at m number opcode low high lt = and_right (is_uniform (forms_at m number opcode)) (are_apart (forms_at m number opcode)) (each_opcode m number opcode low high lt)

-- ---- from the test to the forms

cond_fits : (b : Bool) (s t : Shape) → cond b (Fits s) Refused ≡ Fits t → b ≡ true
cond_fits true s t h = refl
cond_fits false s t h = absurd cc

cond_needs : (b : Bool) (s t : Shape) → cond b NeedModrm (Fits s) ≡ Fits t → not b ≡ true
cond_needs true s t h = absurd cc
cond_needs false s t h = refl

operand_holds : (o : Operand) (modrm : Option ℕ) (s t : Shape) → look_operand o modrm s ≡ Fits t → takes_modrm modrm o ≡ true
operand_holds o None s t h = cond_needs (has_modrm o) s t h
operand_holds o (Some m) s t h = cond_fits (takes o m) s t h

operand_refuses : (o : Operand) (modrm : Option ℕ) (s : Shape) → may_answer modrm o ≡ false → look_operand o modrm s ≡ Refused
operand_refuses o None s h = absurd cc
operand_refuses o (Some m) s h = rw h

record FormFits (f : Form) (p : Prefixes) (modrm : Option ℕ) : Type 0 where
  accept : accepts f.prefixes p ≡ true
  hold : takes_modrm modrm f.operand ≡ true

form_fits : (f : Form) (p : Prefixes) (modrm : Option ℕ) (s : Shape) → look_form f p modrm ≡ Fits s → FormFits f p modrm
form_fits f p modrm s h = elim (accepts f.prefixes p) as (λ b. accepts f.prefixes p ≡ b → FormFits f p modrm) [
  | true ↦ λ e. record { accept = e; hold = operand_holds f.operand modrm (shape_of f p) s (sym (accepted_form f p modrm e) ∙ h) }
  | false ↦ λ e. let refused = refused_form f p modrm e in absurd cc
] refl

form_refuses : (g : Form) (p : Prefixes) (modrm : Option ℕ) → may_answer modrm g.operand ≡ false → look_form g p modrm ≡ Refused
form_refuses g p modrm h = elim (accepts g.prefixes p) as (λ b. accepts g.prefixes p ≡ b → look_form g p modrm ≡ Refused) [
  | true ↦ λ e. accepted_form g p modrm e ∙ operand_refuses g.operand modrm (shape_of g p) h
  | false ↦ λ e. refused_form g p modrm e
] refl

others_refuse : (modrm : Option ℕ) (f : Form) (forms : List Form) (p : Prefixes) → apart_from modrm f forms ≡ true → accepts f.prefixes p ≡ true → AllByRecursion (λ g. look_form g p modrm ≡ Refused) forms
others_refuse modrm f [] p h accept = tt
others_refuse modrm f (g ∷ forms) p h accept =
    let here : look_form g p modrm ≡ Refused = elim (or_true (not (may_answer modrm g.operand)) (uses_apart f.prefixes g.prefixes) (and_left (not (may_answer modrm g.operand) || uses_apart f.prefixes g.prefixes) (apart_from modrm f forms) h)) [
      | inl silent ↦ form_refuses g p modrm (not-true (may_answer modrm g.operand) silent)
      | inr apart ↦ refused_form g p modrm (refused_by_uses f.prefixes g.prefixes p apart accept)
    ] in
    (here, others_refuse modrm f forms p (and_right (not (may_answer modrm g.operand) || uses_apart f.prefixes g.prefixes) (apart_from modrm f forms) h) accept)

holds_then : (b c : Bool) → (not b || c) ≡ true → b ≡ true → c ≡ true
holds_then true c h e = h
holds_then false c h e = absurd cc

fits_once : (modrm : Option ℕ) (forms : List Form) (p : Prefixes) → all_apart modrm forms ≡ true → FitsOnce p modrm forms
fits_once modrm [] p h = tt
fits_once modrm (f ∷ forms) p h = (
  λ shape e.
      let fits = form_fits f p modrm shape e in
      others_refuse modrm f forms p (holds_then (takes_modrm modrm f.operand) (apart_from modrm f forms) (and_left (not (takes_modrm modrm f.operand) || apart_from modrm f forms) (all_apart modrm forms) h) fits.hold) fits.accept,
  fits_once modrm forms p (and_right (not (takes_modrm modrm f.operand) || apart_from modrm f forms) (all_apart modrm forms) h),
)

list_all-at : (test : ℕ → Bool) (xs : List ℕ) (i : ℕ) → list_all test xs ≡ true → i < length xs → test (get_or xs i 0) ≡ true
list_all-at test [] i h lt = absurd (omega arith)
list_all-at test (x ∷ xs) zero h lt = and_left (test x) (list_all test xs) h
list_all-at test (x ∷ xs) (suc i) h lt = list_all-at test xs i (and_right (test x) (list_all test xs) h) (omega arith)

several_once : (modrm : Option ℕ) (forms : List Form) (p : Prefixes) → IfSome modrm (λ m. m < 256)
    → (all_apart None forms && list_all (λ m. all_apart (Some m) forms) (range_with_len 0 256)) ≡ true → FitsOnce p modrm forms
several_once None forms p byte h = fits_once None forms p (and_left (all_apart None forms) (list_all (λ m. all_apart (Some m) forms) (range_with_len 0 256)) h)
several_once (Some m) forms p byte h =
    let each = and_right (all_apart None forms) (list_all (λ m. all_apart (Some m) forms) (range_with_len 0 256)) h in
    let in_range : m < length (range_with_len 0 256) = omega (arith, length-range_with_len 0 256, byte) in
    let at : get_or (range_with_len 0 256) m 0 ≡ m = get_or-range_with_len 0 256 m 0 byte ∙ (let same : 0 + m ≡ m = omega arith in same) in
    fits_once (Some m) forms p (rw at at (list_all-at (λ m. all_apart (Some m) forms) (range_with_len 0 256) m each in_range))

once : (modrm : Option ℕ) (forms : List Form) (p : Prefixes) → IfSome modrm (λ m. m < 256) → are_apart forms ≡ true → FitsOnce p modrm forms
once modrm [] p byte h = tt
once modrm (f ∷ []) p byte h = (λ shape e. tt, tt)
once modrm (f ∷ g ∷ forms) p byte h = several_once modrm (f ∷ g ∷ forms) p byte h

pub forms-apart : FormsAreApart
forms-apart m p number opcode modrm low high lt byte = once modrm (forms_at m number opcode) p byte (apart_at m number opcode low high lt)
