-- No spelling begins another, and what follows for the fronts of byte strings.
use Rattle.std.proofs.Common.{◌≡◌, ℕ, ◌+◌, ◌-◌, ◌≤◌, List, [], ◌++◌, length, take, drop, Ok, refl, sym, ap, subst, ◌∙◌, arith, append_assoc}
use Rattle.std.proofs.lemmas.List.{length-append, take_at, append-nil}
use Rattle.std.proofs.Math.Seq.{take-add}
use Rattle.operation_defs.specs.declared.insn.Insn.{Insn}
use Rattle.x86_map.specs.declared.map.Map.{Map}
use Rattle.x86_decode.specs.Spelling.{Spells, BeginsSpelling, BeginsNone}
use Rattle.x86_decode.specs.Reading.{Read, reading}
use Rattle.x86_decode.specs.Decoding.{OneSpelling}
use Rattle.x86_decode.proofs.Complete.{reads}
use Rattle.x86_decode.proofs.Spelled.{to_language}

abbrev pub ok_of : Insn → Read
ok_of x = Ok x

ok_is : (x y : Insn) → ok_of x ≡ ok_of y → x ≡ y
ok_is x y e = cc

-- a spelling is read, whatever stands behind it
pub spelling_reads : (map : Map) (text rest : List ℕ) (insn : Insn) → Spells map text insn → reading map (text ++ rest) ≡ ok_of insn
spelling_reads map text rest insn s = reads map text rest insn (to_language map text insn s)

pub one_spelling-holds : OneSpelling
one_spelling-holds map a b x y m n sa sb same =
    let e : m ≡ n = ok_is m n (sym (spelling_reads map a x m sa) ∙ ap (reading map) same ∙ spelling_reads map b y n sb) in
    let len : length a ≡ length b = sym sa.len ∙ ap (λ (i : Insn). i.len) e ∙ sb.len in
    (sym (take_at a x (length a) refl) ∙ ap (take (length a)) same ∙ take_at b y (length a) (sym len), e)

-- a spelling is no front of a longer one
pub not_begun : (map : Map) (text : List ℕ) (insn : Insn) (more : List ℕ) → Spells map text insn → BeginsSpelling map (text ++ more) → ⊥
not_begun map text insn more s b =
    let same : text ++ (more ++ b.0) ≡ ((text ++ more) ++ b.0) ++ [] = sym (append_assoc text more b.0) ∙ sym (append-nil ((text ++ more) ++ b.0)) in
    let one = one_spelling-holds map text ((text ++ more) ++ b.0) (more ++ b.0) [] insn b.1 s b.3 same in
    let len : length text ≡ length ((text ++ more) ++ b.0) = ap (length {A = ℕ}) one.0 in
    omega (arith, len, b.2, length-append (text ++ more) b.0, length-append text more)

-- what begins none is no front of one, nor of what begins one
pub none_spelled : (map : Map) (front more : List ℕ) (insn : Insn) → BeginsNone map front → Spells map (front ++ more) insn → ⊥
none_spelled map front more insn none s = none more insn s

pub none_begun : (map : Map) (front more : List ℕ) → BeginsNone map front → BeginsSpelling map (front ++ more) → ⊥
none_begun map front more none b = none (more ++ b.0) b.1 (subst (λ (t : List ℕ). Spells map t b.1) (append_assoc front more b.0) b.3)

-- a longer front in two parts
pub take_split : (n m : ℕ) (bytes : List ℕ) → n ≤ m → take m bytes ≡ take n bytes ++ take (m - n) (drop n bytes)
take_split n m bytes le = let sum : m ≡ n + (m - n) = omega arith in ap (λ (k : ℕ). take k bytes) sum ∙ take-add n (m - n) bytes
