-- How the instructions that are listed in bytes lie.
use Rattle.std.proofs.Common.{◌≡◌, ℕ, zero, suc, ◌+◌, ◌-◌, ◌<◌, ◌≤◌, Bool, true, false, cond, List, [], ◌∷◌, Some, length, refl, ap, arith, subst}
use Rattle.std.specs.Prelude.{Result, Ok, Err, ◌==◌}
use Rattle.std.proofs.lemmas.Bool.{eqb-true}
use Rattle.operation_defs.specs.declared.insn.Insn.{Insn}
use Rattle.x86_map.specs.declared.map.Map.{Map}
use Rattle.x86_decode.specs.Decoding.{Outcome, decoded}
use Rattle.x86_decode.specs.declared.DecodeFault.{DecodeFault}
use Rattle.x86_decode.proofs.Decided.{lengths, outcome}
use Rattle.x86_decode.proofs.Languages.{IsBytes}
use Rattle.x86_text.specs.Code.{code_from, insn_listed, with_rest}
use Rattle.table_law.proofs.Lists.{some_is}

-- a decoded instruction has a byte, and no more than there are
pub record HasLength (bytes : List ℕ) (insn : Insn) : Type 0 where
  pub some : 1 ≤ insn.len
  pub within : insn.len ≤ length bytes

pub decoded_len : (map : Map) (bytes : List ℕ) (insn : Insn) → IsBytes bytes → decoded map bytes ≡ Ok insn → HasLength bytes insn
decoded_len map bytes insn are is =
    let its = lengths map bytes (Ok insn) (subst (Outcome map bytes) is (outcome map bytes are)) in
    record { some = its.0; within = its.2 }

-- a listed instruction lies behind those that were passed by, has a byte, and ends within the bytes
pub record LiesIn (skip off : ℕ) (bytes : List ℕ) (at : ℕ) (insn : Insn) : Type 0 where
  pub behind : off + skip ≤ at
  pub some : 1 ≤ insn.len
  pub within : at + insn.len ≤ off + length bytes

one_more : (skip skip' off : ℕ) (b : ℕ) (bytes : List ℕ) (at : ℕ) (insn : Insn) → off + skip ≤ off + 1 + skip' → LiesIn skip' (off + 1) bytes at insn → LiesIn skip off (b ∷ bytes) at insn
one_more skip skip' off b bytes at insn more lies = record { behind = omega (arith, more, lies.behind); some = lies.some; within = omega (arith, lies.within) }

pub lies_in : (map : Map) (skip off : ℕ) (bytes : List ℕ) (at : ℕ) (insn : Insn) → IsBytes bytes → insn_listed (code_from map skip off bytes) at ≡ Some insn → LiesIn skip off bytes at insn
lies_in map skip off [] at insn are is = absurd (let k : ⊥ = cc in k)
lies_in map (suc skip) off (b ∷ bytes) at insn are is = one_more (suc skip) skip off b bytes at insn (omega arith) (lies_in map skip (off + 1) bytes at insn are.1 is)
lies_in map zero off (b ∷ bytes) at insn are is = go (decoded map (b ∷ bytes)) refl is (λ skip h. lies_in map skip (off + 1) bytes at insn are.1 h)
  where
    here_lies : (here : Insn) → HasLength (b ∷ bytes) here → off ≡ at → LiesIn zero off (b ∷ bytes) at here
    here_lies here has e = record { behind = omega (arith, e); some = has.some; within = omega (arith, e, has.within) }

    by_place : (here : Insn) (found : Bool) → (off == at) ≡ found → decoded map (b ∷ bytes) ≡ Ok here → cond found (Some here) (insn_listed (code_from map (here.len - 1) (off + 1) bytes) at) ≡ Some insn → ((skip : ℕ) → insn_listed (code_from map skip (off + 1) bytes) at ≡ Some insn → LiesIn skip (off + 1) bytes at insn) → LiesIn zero off (b ∷ bytes) at insn
    by_place here true e of h later = subst (LiesIn zero off (b ∷ bytes) at) (some_is h) (here_lies here (decoded_len map (b ∷ bytes) here are of) (eqb-true off at e))
    by_place here false e of h later = one_more zero (here.len - 1) off b bytes at insn (omega arith) (later (here.len - 1) h)

    go : (r : Result Insn DecodeFault) → decoded map (b ∷ bytes) ≡ r → insn_listed (with_rest off r (λ skip. code_from map skip (off + 1) bytes)) at ≡ Some insn → ((skip : ℕ) → insn_listed (code_from map skip (off + 1) bytes) at ≡ Some insn → LiesIn skip (off + 1) bytes at insn) → LiesIn zero off (b ∷ bytes) at insn
    go (Ok here) of h later = by_place here (off == at) refl of h later
    go (Err why) of h later = absurd (let k : ⊥ = cc in k)

-- of two listed instructions the first ends where the other begins, or before
pub lie_apart : (map : Map) (skip off : ℕ) (bytes : List ℕ) (a b : ℕ) (one other : Insn) → IsBytes bytes → insn_listed (code_from map skip off bytes) a ≡ Some one → insn_listed (code_from map skip off bytes) b ≡ Some other → a < b → a + one.len ≤ b
lie_apart map skip off [] a b one other are is also before = absurd (let k : ⊥ = cc in k)
lie_apart map (suc skip) off (x ∷ bytes) a b one other are is also before = lie_apart map skip (off + 1) bytes a b one other are.1 is also before
lie_apart map zero off (x ∷ bytes) a b one other are is also before = go (decoded map (x ∷ bytes)) refl is also (λ skip h k. lie_apart map skip (off + 1) bytes a b one other are.1 h k before) (λ skip k. (lies_in map skip (off + 1) bytes b other are.1 k).behind) (λ skip h. (lies_in map skip (off + 1) bytes a one are.1 h).behind)
  where
    by_places : (here : Insn) (first second : Bool) → (off == a) ≡ first → (off == b) ≡ second → HasLength (x ∷ bytes) here
        → cond first (Some here) (insn_listed (code_from map (here.len - 1) (off + 1) bytes) a) ≡ Some one
        → cond second (Some here) (insn_listed (code_from map (here.len - 1) (off + 1) bytes) b) ≡ Some other
        → ((skip : ℕ) → insn_listed (code_from map skip (off + 1) bytes) a ≡ Some one → insn_listed (code_from map skip (off + 1) bytes) b ≡ Some other → a + one.len ≤ b)
        → ((skip : ℕ) → insn_listed (code_from map skip (off + 1) bytes) b ≡ Some other → off + 1 + skip ≤ b)
        → ((skip : ℕ) → insn_listed (code_from map skip (off + 1) bytes) a ≡ Some one → off + 1 + skip ≤ a)
        → a + one.len ≤ b
    by_places here true true e f has h k later above low = absurd (omega (arith, eqb-true off a e, eqb-true off b f, before))
    by_places here true false e f has h k later above low =
        let len : here.len ≡ one.len = ap (λ (i : Insn). i.len) (some_is h) in
        omega (arith, eqb-true off a e, above (here.len - 1) k, len, has.some)
    by_places here false true e f has h k later above low = absurd (omega (arith, eqb-true off b f, low (here.len - 1) h, before))
    by_places here false false e f has h k later above low = later (here.len - 1) h k

    go : (r : Result Insn DecodeFault) → decoded map (x ∷ bytes) ≡ r
        → insn_listed (with_rest off r (λ skip. code_from map skip (off + 1) bytes)) a ≡ Some one
        → insn_listed (with_rest off r (λ skip. code_from map skip (off + 1) bytes)) b ≡ Some other
        → ((skip : ℕ) → insn_listed (code_from map skip (off + 1) bytes) a ≡ Some one → insn_listed (code_from map skip (off + 1) bytes) b ≡ Some other → a + one.len ≤ b)
        → ((skip : ℕ) → insn_listed (code_from map skip (off + 1) bytes) b ≡ Some other → off + 1 + skip ≤ b)
        → ((skip : ℕ) → insn_listed (code_from map skip (off + 1) bytes) a ≡ Some one → off + 1 + skip ≤ a)
        → a + one.len ≤ b
    go (Ok here) of h k later above low = by_places here (off == a) (off == b) refl refl (decoded_len map (x ∷ bytes) here are of) h k later above low
    go (Err why) of h k later above low = absurd (let z : ⊥ = cc in z)
