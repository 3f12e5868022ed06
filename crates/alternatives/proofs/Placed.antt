-- Where the instructions of texts stand.
use Rattle.std.proofs.Common.{◌≡◌, ℕ, zero, suc, ◌+◌, ◌-◌, ◌<◌, ◌≤◌, Bool, true, false, cond, eqb, ◌&&◌, List, [], ◌∷◌, length, get_or, find, Option, Some, is_some, option_and_then, Ok, Err, inl, inr, refl, sym, ap, ◌∙◌, arith}
use Rattle.std.specs.List.{AllByRecursion, list_any}
use Rattle.std.proofs.lemmas.Bool.{eq-eqb, ne_eqb, false≢true, or_cases}
use Rattle.std.proofs.lemmas.Bool.Decides.{eqb_tells, nat_tests}
use Rattle.ot_base.specs.declared.place.Place.{Place}
use Rattle.operation_defs.specs.declared.insn.Insn.{Insn}
use Rattle.x86_map.specs.declared.map.Map.{Map}
use Rattle.x86_decode.specs.Decoding.{decoded}
use Rattle.x86_text.specs.declared.placed.PlacedInsn.{PlacedInsn}
use Rattle.x86_text.specs.Code.{Body, code_of, code_from, with_rest, insn_listed}
use Rattle.alternatives.specs.declared.texts.SectionText.{SectionText}
use Rattle.alternatives.specs.Texts.{AscendBySection, insn_at, is_cut, is_cut_of}
use Rattle.alternatives.proofs.Ascending.{In, Rising, every-weaker, every-in}

-- an instruction of bytes that begin at an offset begins in them
abbrev Within : ℕ → ℕ → PlacedInsn → Type 0
Within off len p = (off ≤ p.off) × (p.off < off + len)

within_more : (off len : ℕ) (p : PlacedInsn) → Within (off + 1) len p → Within off (suc len) p
within_more off len p h = (omega (arith, h.0), omega (arith, h.1))

placed : (map : Map) (skip off : ℕ) (bytes : List ℕ) → AllByRecursion (Within off (length bytes)) (code_from map skip off bytes)
placed map skip off [] = tt
placed map zero off (b ∷ bytes) =
    elim (decoded map (b ∷ bytes)) as (λ d. AllByRecursion (Within off (suc (length bytes))) (with_rest off d (λ skip. code_from map skip (off + 1) bytes))) [
      | Ok insn ↦ ((omega arith, omega arith), every-weaker (Within (off + 1) (length bytes)) (Within off (suc (length bytes))) (within_more off (length bytes)) (code_from map (insn.len - 1) (off + 1) bytes) (placed map (insn.len - 1) (off + 1) bytes))
      | Err why ↦ tt
    ]
placed map (suc skip) off (b ∷ bytes) = every-weaker (Within (off + 1) (length bytes)) (Within off (suc (length bytes))) (within_more off (length bytes)) (code_from map skip (off + 1) bytes) (placed map skip (off + 1) bytes)

rising : (map : Map) (skip off : ℕ) (bytes : List ℕ) → Rising (λ (p q : PlacedInsn). p.off < q.off) (code_from map skip off bytes)
rising map skip off [] = tt
rising map zero off (b ∷ bytes) =
    elim (decoded map (b ∷ bytes)) as (λ d. Rising (λ (p q : PlacedInsn). p.off < q.off) (with_rest off d (λ skip. code_from map skip (off + 1) bytes))) [
      | Ok insn ↦ (every-weaker (Within (off + 1) (length bytes)) (λ (q : PlacedInsn). off < q.off) (λ q h. omega (arith, h.0)) (code_from map (insn.len - 1) (off + 1) bytes) (placed map (insn.len - 1) (off + 1) bytes), rising map (insn.len - 1) (off + 1) bytes)
      | Err why ↦ tt
    ]
rising map (suc skip) off (b ∷ bytes) = rising map skip (off + 1) bytes

short : (map : Map) (skip off : ℕ) (bytes : List ℕ) → length (code_from map skip off bytes) ≤ length bytes
short map skip off [] = omega arith
short map zero off (b ∷ bytes) =
    elim (decoded map (b ∷ bytes)) as (λ d. length (with_rest off d (λ skip. code_from map skip (off + 1) bytes)) ≤ suc (length bytes)) [
      | Ok insn ↦ omega (arith, short map (insn.len - 1) (off + 1) bytes)
      | Err why ↦ omega arith
    ]
short map (suc skip) off (b ∷ bytes) = omega (arith, short map skip (off + 1) bytes)

-- the instructions of a body begin in it, one after the other, and are no more than its bytes
pub code_within : (body : Body) → AllByRecursion (λ (p : PlacedInsn). p.off < length body.bytes) (code_of body)
unfolding code_of
code_within body = every-weaker (Within 0 (length body.bytes)) (λ (p : PlacedInsn). p.off < length body.bytes) (λ p h. omega (arith, h.1)) (code_from body.map 0 0 body.bytes) (placed body.map 0 0 body.bytes)

pub code_rising : (body : Body) → Rising (λ (p q : PlacedInsn). p.off < q.off) (code_of body)
unfolding code_of
code_rising body = rising body.map 0 0 body.bytes

pub code_short : (body : Body) → length (code_of body) ≤ length body.bytes
unfolding code_of
code_short body = short body.map 0 0 body.bytes

-- one among these begins at an offset
pub record BeginsAt (code : List PlacedInsn) (off : ℕ) : Type 0 where
  pub p : PlacedInsn
  pub is_in : In p code
  pub at : p.off ≡ off

pub listed_begins : (code : List PlacedInsn) (off : ℕ) → is_some (insn_listed code off) ≡ true → BeginsAt code off
listed_begins [] off h = absurd (false≢true h)
listed_begins (p ∷ code) off h = elim (eqb_tells p.off off) [
  | inl (t, same) ↦ record { p = p; is_in = inl refl; at = same }
  | inr (f, differ) ↦
      let rest : BeginsAt code off = listed_begins code off (sym (ap (λ b. is_some (cond b (Some p.insn) (insn_listed code off))) f) ∙ h) in
      record { p = rest.p; is_in = inr rest.is_in; at = rest.at }
]

pub begins_listed : (code : List PlacedInsn) (p : PlacedInsn) → In p code → is_some (insn_listed code p.off) ≡ true
begins_listed [] p h = absurd h
begins_listed (q ∷ code) p (inl is) = ap (λ b. is_some (cond b (Some q.insn) (insn_listed code p.off))) (eq-eqb q.off p.off (ap (λ (r : PlacedInsn). r.off) is))
begins_listed (q ∷ code) p (inr h) = elim (eqb q.off p.off) as (λ b. is_some (cond b (Some q.insn) (insn_listed code p.off)) ≡ true) [ true ↦ refl | false ↦ begins_listed code p h ]

-- a text of a section in which something holds of an offset
pub record HasText (texts : List SectionText) (place : Place) (P : SectionText → Type 0) : Type 0 where
  pub t : SectionText
  pub is_in : In t texts
  pub sec : t.sec ≡ place.sec
  pub holds : P t

abbrev its : Place → SectionText → Option Insn
its place t = insn_listed (code_of t.text) place.off

pub insn_has_text : (texts : List SectionText) (place : Place) → is_some (insn_at texts place) ≡ true → HasText texts place (λ t. is_some (insn_listed (code_of t.text) place.off) ≡ true)
insn_has_text [] place h = absurd (false≢true h)
insn_has_text (t ∷ texts) place h = elim (eqb_tells t.sec place.sec) [
  | inl (is, same) ↦ record { t = t; is_in = inl refl; sec = same; holds = sym (ap (λ b. is_some (option_and_then (its place) (cond b (Some t) (find (λ (u : SectionText). eqb u.sec place.sec) texts)))) is) ∙ h }
  | inr (is_not, differ) ↦
      let rest = insn_has_text texts place (sym (ap (λ b. is_some (option_and_then (its place) (cond b (Some t) (find (λ (u : SectionText). eqb u.sec place.sec) texts)))) is_not) ∙ h) in
      record { t = rest.t; is_in = inr rest.is_in; sec = rest.sec; holds = rest.holds }
]

-- each text is of a later section than those before it
abbrev pub RiseBySection : List SectionText → Type 0
RiseBySection texts = Rising (λ (t u : SectionText). t.sec < u.sec) texts

pub text_has_insn : (texts : List SectionText) (t : SectionText) (off : ℕ) → RiseBySection texts → In t texts → is_some (insn_listed (code_of t.text) off) ≡ true → is_some (insn_at texts (record { sec = t.sec; off = off })) ≡ true
text_has_insn [] t off r h some = absurd h
text_has_insn (u ∷ texts) t off r (inl is) some =
    let place : Place = record { sec = t.sec; off = off } in
    ap (λ b. is_some (option_and_then (its place) (cond b (Some u) (find (λ (v : SectionText). eqb v.sec t.sec) texts)))) (eq-eqb u.sec t.sec (ap (λ (v : SectionText). v.sec) is))
    ∙ ap (λ (v : SectionText). is_some (insn_listed (code_of v.text) off)) is
    ∙ some
text_has_insn (u ∷ texts) t off r (inr h) some =
    let place : Place = record { sec = t.sec; off = off } in
    let less : u.sec < t.sec = every-in (λ (v : SectionText). u.sec < v.sec) texts t r.0 h in
    ap (λ b. is_some (option_and_then (its place) (cond b (Some u) (find (λ (v : SectionText). eqb v.sec t.sec) texts)))) (ne_eqb u.sec t.sec (λ same. omega arith))
    ∙ text_has_insn texts t off r.1 h some

pub and_both : (a b : Bool) → (a && b) ≡ true → (a ≡ true) × (b ≡ true)
and_both true b h = (refl, h)
and_both false b h = absurd (false≢true h)

cut_within : (body : Body) (off : ℕ) → is_cut_of body off ≡ true → off ≤ length body.bytes
cut_within body off h = elim (or_cases (eqb off (length body.bytes)) (is_some (insn_listed (code_of body) off)) h) [
  | inl same ↦ grind (arith, nat_tests)
  | inr some ↦
      let at : BeginsAt (code_of body) off = listed_begins (code_of body) off some in
      let inside : at.p.off < length body.bytes = every-in (λ (p : PlacedInsn). p.off < length body.bytes) (code_of body) at.p (code_within body) at.is_in in
      omega (arith, at.at)
]

eqb_same : (a b : ℕ) → eqb a b ≡ true → a ≡ b
eqb_same a b h = grind (arith, nat_tests)

pub cut_has_text : (texts : List SectionText) (place : Place) → is_cut texts place ≡ true → HasText texts place (λ t. place.off ≤ length t.text.bytes)
cut_has_text [] place h = absurd (false≢true h)
cut_has_text (t ∷ texts) place h = elim (or_cases (eqb t.sec place.sec && is_cut_of t.text place.off) (list_any (λ (u : SectionText). eqb u.sec place.sec && is_cut_of u.text place.off) texts) h) [
  | inl here ↦
      let both = and_both (eqb t.sec place.sec) (is_cut_of t.text place.off) here in
      record { t = t; is_in = inl refl; sec = eqb_same t.sec place.sec both.0; holds = cut_within t.text place.off both.1 }
  | inr later ↦
      let rest = cut_has_text texts place later in
      record { t = rest.t; is_in = inr rest.is_in; sec = rest.sec; holds = rest.holds }
]

pub insn_within : (texts : List SectionText) (place : Place) → is_some (insn_at texts place) ≡ true → HasText texts place (λ t. place.off ≤ length t.text.bytes)
insn_within texts place h =
    let has = insn_has_text texts place h in
    let at : BeginsAt (code_of has.t.text) place.off = listed_begins (code_of has.t.text) place.off has.holds in
    let inside : at.p.off < length has.t.text.bytes = every-in (λ (p : PlacedInsn). p.off < length has.t.text.bytes) (code_of has.t.text) at.p (code_within has.t.text) at.is_in in
    record { t = has.t; is_in = has.is_in; sec = has.sec; holds = omega (arith, at.at) }

others_later : (t : SectionText) (texts : List SectionText) → ((k : ℕ) (d : SectionText) → k < length texts → t.sec < (get_or texts k d).sec) → AllByRecursion (λ (u : SectionText). t.sec < u.sec) texts
others_later t [] later = tt
others_later t (u ∷ texts) later = (later 0 u (omega arith), others_later t texts (λ k d inside. later (suc k) d (omega arith)))

pub rise_by_section : (texts : List SectionText) → AscendBySection texts → RiseBySection texts
rise_by_section [] ascend = tt
rise_by_section (t ∷ texts) ascend =
    (others_later t texts (λ k d inside. ascend 0 (suc k) d (omega arith) (omega arith)), rise_by_section texts (λ i j d less inside. ascend (suc i) (suc j) d (omega arith) (omega arith)))
