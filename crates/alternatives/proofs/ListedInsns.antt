-- Instructions by their numbers in a body of code.
use Rattle.std.proofs.Common.{◌≡◌, ◌≢◌, ℕ, zero, suc, ◌<◌, Bool, false, cond, eqb, List, [], ◌∷◌, length, find, get_or, Option, Some, None, option_and_then, inl, inr, refl, arith, sym, ap, ◌∙◌, subst}
use Rattle.std.proofs.lemmas.Bool.{cases_lt, eq-eqb, ne_eqb}
use Rattle.std.specs.Prelude.{slice_get}
use Rattle.std.proofs.lemmas.Option.{get_or_from_slice_get, slice_get_within}
use Rattle.special_sections.specs.declared.entries.AltEntry.{AltEntry}
use Rattle.x86_text.specs.declared.placed.PlacedInsn.{PlacedInsn}
use Rattle.x86_text.specs.Code.{Body, code_of, insn_listed}
use Rattle.x86_text.proofs.QueryLemmas.{found_here}
use Rattle.std.specs.List.{AllByRecursion}
use Rattle.alternatives.specs.declared.texts.SectionText.{SectionText}
use Rattle.alternatives.specs.Gathered.{TellsPlain}
use Rattle.alternatives.specs.Points.{insn_of_point}
use Rattle.alternatives.specs.Texts.{AscendBySection}
use Rattle.alternatives.proofs.Ascending.{Rising}
use Rattle.alternatives.proofs.Finding.{only_one}
use Rattle.alternatives.proofs.Placed.{code_rising}

every_at : (P : PlacedInsn → Type 0) (xs : List PlacedInsn) → AllByRecursion P xs → (k : ℕ) (e : PlacedInsn) → k < length xs → P (get_or xs k e)
every_at P [] all k e inside = absurd (omega arith)
every_at P (x ∷ xs) all zero e inside = all.0
every_at P (x ∷ xs) all (suc k) e inside = every_at P xs all.1 k e (omega arith)

far : (xs : List PlacedInsn) → Rising (λ (p q : PlacedInsn). p.off < q.off) xs → (k n : ℕ) (e d : PlacedInsn) → k < n → n < length xs → (get_or xs k e).off < (get_or xs n d).off
far [] up k n e d less inside = absurd (omega arith)
far (x ∷ xs) up k zero e d less inside = absurd (omega arith)
far (x ∷ xs) up zero (suc n) e d less inside = every_at (λ (q : PlacedInsn). x.off < q.off) xs up.0 n d (omega arith)
far (x ∷ xs) up (suc k) (suc n) e d less inside = far xs up.1 k n e d (omega arith) (omega arith)

-- the one with a number is found at its offset
pub near_here : (body : Body) (i : ℕ) (p : PlacedInsn) → slice_get (code_of body) i ≡ Some p → insn_listed (code_of body) p.off ≡ Some p.insn
near_here body i p here =
    let code : List PlacedInsn = code_of body in
    let inside : i < length code = slice_get_within code i p here in
    let is : get_or code i p ≡ p = get_or_from_slice_get code i p p here in
    found_here code p.off i p inside (λ k e less. subst (λ (q : PlacedInsn). (get_or code k e).off < q.off) is (far code (code_rising body) k i e p less inside)) (ap (λ (q : PlacedInsn). q.off) is)
    ∙ ap (λ (q : PlacedInsn). Some q.insn) is

other_section : (texts : List SectionText) (k : ℕ) (t : SectionText) → AscendBySection texts → k < length texts → t ≡ get_or texts k t → (j : ℕ) → j < length texts → j ≢ k → eqb (get_or texts j t).sec t.sec ≡ false
other_section texts k t ascend inside is j within differ =
    let own : t.sec ≡ (get_or texts k t).sec = ap (λ (u : SectionText). u.sec) is in
    elim (cases_lt j k) [
      | inl lower ↦
          let less : (get_or texts j t).sec < (get_or texts k t).sec = ascend j k t lower inside in
          ne_eqb (get_or texts j t).sec t.sec (λ same. omega arith)
      | inr not_lower ↦
          let higher : k < j = omega arith in
          let less : (get_or texts k t).sec < (get_or texts j t).sec = ascend k j t higher within in
          ne_eqb (get_or texts j t).sec t.sec (λ same. omega arith)
    ]

-- the instruction of a plain point is that of its text
pub plain_told : (texts : List SectionText) (entries : List AltEntry) (k : ℕ) (t : SectionText) → AscendBySection texts → k < length texts → t ≡ get_or texts k t → TellsPlain (insn_of_point texts entries) t
plain_told texts entries k t ascend inside is = λ i p listed.
    let test : SectionText → Bool = λ u. eqb u.sec t.sec in
    let found : find test texts ≡ Some t =
    only_one test texts k t inside (other_section texts k t ascend inside is)
    ∙ ap (λ (u : SectionText). cond (test u) (Some u) None) (sym is)
    ∙ ap (λ b. cond b (Some t) None) (eq-eqb t.sec t.sec refl) in
    ap (λ (o : Option SectionText). option_and_then (λ (u : SectionText). insn_listed (code_of u.text) p.off) o) found ∙ near_here t.text i p listed
