-- The instructions of texts one after the other, and the lists that they make.
use Rattle.std.proofs.Common.{◌≡◌, ℕ, zero, suc, ◌+◌, ◌<◌, ◌≤◌, Bool, true, false, cond, List, [], ◌∷◌, ◌++◌, map, length, take, get_or, Some, refl, sym, ◌∙◌, ap, append-nil, append_assoc, arith}
use Rattle.std.specs.Prelude.{◌&&◌, filter, flat_map, slice_get}
use Rattle.std.proofs.lemmas.List.{get_or-map, take_all, take_more}
use Rattle.std.proofs.lemmas.Option.{get_or_from_slice_get}
use Rattle.std.proofs.lemmas.List.Concat.{flat_map-append}
use Rattle.std.proofs.lemmas.List.Elements.{filter-append}
use Rattle.ot_base.specs.declared.place.Place.{Place}
use Rattle.x86_text.specs.declared.placed.PlacedInsn.{PlacedInsn}
use Rattle.x86_text.specs.Code.{code_of}
use Rattle.alternatives.specs.declared.texts.SectionText.{SectionText}
use Rattle.flow_defs.specs.Code.{texts_of}
use Rattle.flow_defs.specs.Coded.{Coded}
use Rattle.site_lists.specs.Listed.{Listed}
use Rattle.site_lists.specs.declared.options.ListOptions.{ListOptions}
use Rattle.site_lists.specs.Sites.{PlacedCode, can_have_symbol, is_call_site, is_retpoline_site, is_return_site, joined, listed_of, placed_code, places_of, sites_of}

lists_alike : (a b c a' b' c' : List Place) → a ≡ a' → b ≡ b' → c ≡ c' → ◌≡◌ {A = Listed} (record { retpoline = a; returns = b; calls = c }) (record { retpoline = a'; returns = b'; calls = c' })
lists_alike a b c a' b' c' h1 h2 h3 = cc

pub joined-assoc : (a b c : Listed) → joined (joined a b) c ≡ joined a (joined b c)
joined-assoc a b c =
    lists_alike _ _ _ _ _ _ (append_assoc a.retpoline b.retpoline c.retpoline) (append_assoc a.returns b.returns c.returns) (append_assoc a.calls b.calls c.calls)

places_of-append : (passes : PlacedCode → Bool) (xs ys : List PlacedCode) → places_of passes (xs ++ ys) ≡ places_of passes xs ++ places_of passes ys
places_of-append passes [] ys = refl
places_of-append passes (x ∷ xs) ys =
    let rest = places_of-append passes xs ys in
    elim (passes x) as (λ b. map (λ (z : PlacedCode). z.place) (cond b (x ∷ filter passes (xs ++ ys)) (filter passes (xs ++ ys))) ≡ map (λ (z : PlacedCode). z.place) (cond b (x ∷ filter passes xs) (filter passes xs)) ++ places_of passes ys) [
      | true ↦ ap (λ places. x.place ∷ places) rest
      | false ↦ rest
    ]

-- the lists of code behind other code
pub listed_of-append : (m : ListOptions) (o : Coded) (xs ys : List PlacedCode) → listed_of m o (xs ++ ys) ≡ joined (listed_of m o xs) (listed_of m o ys)
listed_of-append m o xs ys =
    lists_alike _ _ _ _ _ _ (places_of-append (is_retpoline_site o) xs ys) (places_of-append (is_return_site o) xs ys) (places_of-append (is_call_site m o) xs ys)

abbrev pub of_text : SectionText → PlacedInsn → PlacedCode
of_text t p = record { place = record { sec = t.sec; off = p.off }; insn = p.insn }

-- the instruction of a text with a number
pub insn_at : (t : SectionText) (i : ℕ) (p : PlacedInsn) → i < length (code_of t.text) → slice_get (code_of t.text) i ≡ Some p → get_or (placed_code t) i (of_text t p) ≡ of_text t p
insn_at t i p inside at = get_or-map (of_text t) (code_of t.text) i p (of_text t p) inside ∙ ap (of_text t) (get_or_from_slice_get (code_of t.text) i p p at)

-- one instruction more
pub one_more : (m : ListOptions) (o : Coded) (code : List PlacedCode) (i : ℕ) (x d : PlacedCode) (old before new : Listed)
    → i < length code → get_or code i d ≡ x
    → before ≡ joined old (listed_of m o (take i code)) → new ≡ joined before (listed_of m o (x ∷ []))
    → new ≡ joined old (listed_of m o (take (i + 1) code))
one_more m o code i x d old before new inside at was is =
    is ∙ ap (λ (l : Listed). joined l (listed_of m o (x ∷ []))) was ∙ joined-assoc old (listed_of m o (take i code)) (listed_of m o (x ∷ []))
    ∙ ap (joined old) (sym (listed_of-append m o (take i code) (x ∷ [])) ∙ ap (λ (y : PlacedCode). listed_of m o (take i code ++ y ∷ [])) (sym at) ∙ ap (listed_of m o) (sym (take_more code i d inside)))

-- the texts that pass, with one text more
pub text_more : (m : ListOptions) (p : SectionText → Bool) (texts : List SectionText) (i : ℕ) (t d : SectionText) (o : Coded) (before new : Listed)
    → i < length texts → get_or texts i d ≡ t → p t ≡ true
    → before ≡ listed_of m o (flat_map placed_code (filter p (take i texts))) → new ≡ joined before (listed_of m o (placed_code t))
    → new ≡ listed_of m o (flat_map placed_code (filter p (take (i + 1) texts)))
text_more m p texts i t d o before new inside at passes was is =
    let one : filter p (t ∷ []) ≡ t ∷ [] = rw passes refl in
    let code : flat_map placed_code (filter p (t ∷ [])) ≡ placed_code t = ap (flat_map placed_code) one ∙ append-nil (placed_code t) in
    is ∙ ap (λ (l : Listed). joined l (listed_of m o (placed_code t))) was
    ∙ sym (listed_of-append m o (flat_map placed_code (filter p (take i texts))) (placed_code t))
    ∙ ap (listed_of m o)
    (ap (λ xs. flat_map placed_code (filter p (take i texts)) ++ xs) (sym code) ∙ sym (flat_map-append placed_code (filter p (take i texts)) (filter p (t ∷ [])))
    ∙ ap (flat_map placed_code) (sym (filter-append p (take i texts) (t ∷ [])) ∙ ap (λ z. filter p (take i texts ++ z ∷ [])) (sym at) ∙ ap (filter p) (sym (take_more texts i d inside))))

pub no_text_more : (m : ListOptions) (p : SectionText → Bool) (texts : List SectionText) (i : ℕ) (t d : SectionText) (o : Coded) (before : Listed)
    → i < length texts → get_or texts i d ≡ t → p t ≡ false
    → before ≡ listed_of m o (flat_map placed_code (filter p (take i texts)))
    → before ≡ listed_of m o (flat_map placed_code (filter p (take (i + 1) texts)))
no_text_more m p texts i t d o before inside at fails was =
    let one : filter p (t ∷ []) ≡ [] = rw fails refl in
    was
    ∙ ap (λ ts. listed_of m o (flat_map placed_code ts))
    (sym (append-nil (filter p (take i texts))) ∙ ap (λ ts. filter p (take i texts) ++ ts) (sym one) ∙ sym (filter-append p (take i texts) (t ∷ []))
    ∙ ap (λ z. filter p (take i texts ++ z ∷ [])) (sym at) ∙ ap (filter p) (sym (take_more texts i d inside)))

-- all texts
pub all_texts : (m : ListOptions) (o : Coded) (lists : Listed) (i : ℕ) → length (texts_of o) ≤ i
    → lists ≡ listed_of m o (flat_map placed_code (filter (λ (t : SectionText). can_have_symbol o.elf t.sec) (take i (texts_of o))))
    → lists ≡ sites_of m o
unfolding sites_of
all_texts m o lists i past was =
    was ∙ ap (λ (ts : List SectionText). listed_of m o (flat_map placed_code (filter (λ (t : SectionText). can_have_symbol o.elf t.sec) ts))) (take_all i (texts_of o) past)
