-- What the entry rules promise of every run of the stack machine on a program that breaks none of them.
use Rattle.std.specs.Prelude.{◌≡◌, ℕ, ◌⊎◌, true, Contains}
use Rattle.ot_base.specs.declared.place.Place.{Place}
use Rattle.machine_defs.specs.declared.flow.Role.TheVariants.{CallAny, CallIn, JumpAny, Return}
use Rattle.machine_defs.specs.IsProgram.{IsProgram}
use Rattle.machine_defs.specs.Machine.{At, Bases, Machine, Standing, Wrecked}
use Rattle.machine_defs.specs.Program.{IsPoint, Program, entry_points}
use Rattle.machine_defs.specs.Run.{Run}
use Rattle.machine_defs.specs.Step.{Step, calls_in, calls_out, returns, tail_calls}
use Rattle.entry_rules.specs.declared.options.EntryOptions.{EntryOptions}
use Rattle.entry_rules.specs.EntryWarns.{IsClean, is_before_int3, is_endbr, is_indirect_jump, is_noinstr, is_return}
use Rattle.entry_rules.specs.Facts.{EntryFacts}

-- control that stands in code that isn't instrumented goes on in such code
abbrev pub StaysThere : Program → EntryFacts → Standing → Standing → Type 0
StaysThere p facts s u = is_noinstr p facts s.point ≡ true → is_noinstr p facts u.point ≡ true

-- what a point calls inside the program isn't instrumented
abbrev pub CallsSuch : Program → EntryFacts → Standing → Type 0
CallsSuch p facts s = (entry : ℕ) × (p.role s.point ≡ CallIn entry) × (is_noinstr p facts entry ≡ true)

-- The promise of `noinstr` for a step: a call and a tail call inside the program lead from such code to such code; there is no call
-- of code outside from there, and where control comes back as from one, such code was called; and it is left by a return of its own
-- alone, and not by a jump to code outside that returns.
abbrev pub StepsInside : {p : Program} {bases : Bases} {m n : Machine} → EntryFacts → Step p bases m n → Type 0
StepsInside {p = p} facts (calls_in s t u how lands) = StaysThere p facts s u
StepsInside {p = p} facts (calls_out s t u how lands) = is_noinstr p facts s.point ≡ true → CallsSuch p facts s
StepsInside {p = p} facts (tail_calls s t u how lands) = StaysThere p facts s u
StepsInside {p = p} facts (returns s t u how lands) = is_noinstr p facts s.point ≡ true → p.role s.point ≡ Return
StepsInside facts _ = Unit {0}

-- control that goes indirectly to an entry whose address is taken stands at an ENDBR
abbrev pub ComesToEndbr : Program → EntryFacts → Standing → Type 0
ComesToEndbr p facts u =
    (entry : ℕ) → Contains p.entries entry → Contains (entry_points p entry) u.point → facts.taken entry ≡ true → is_endbr (p.insn u.point).op ≡ true

-- The promise of `ibt` for a step: so it does by an indirect call, and by an indirect jump.
abbrev pub StepsToEndbr : {p : Program} {bases : Bases} {m n : Machine} → EntryFacts → Step p bases m n → Type 0
StepsToEndbr {p = p} facts (calls_in s t u how lands) = p.role s.point ≡ CallAny → ComesToEndbr p facts u
StepsToEndbr {p = p} facts (tail_calls s t u how lands) = p.role s.point ≡ JumpAny → ComesToEndbr p facts u
StepsToEndbr facts _ = Unit {0}

-- The promise of `sls` for a state: an INT3 stands right behind a return and an indirect jump.
abbrev pub IsBeforeInt3 : Program → Machine → Type 0
IsBeforeInt3 p Wrecked = Unit {0}
IsBeforeInt3 p (At s) = (is_return (p.insn s.point).op ≡ true) ⊎ (is_indirect_jump (p.insn s.point).op ≡ true) → is_before_int3 p s.point ≡ true

-- For every placement of the text sections, every state of every run, and every step from it: what is asked for holds.
pub record KeepsRules (p : Program) (facts : EntryFacts) (options : EntryOptions) : Type 0 where
  pub noinstr : options.noinstr ≡ true → (bases : Bases) (m n : Machine) → Run p bases m → (step : Step p bases m n) → StepsInside facts step
  pub sls : options.sls ≡ true → (bases : Bases) (m : Machine) → Run p bases m → IsBeforeInt3 p m
  pub ibt : options.ibt ≡ true → (bases : Bases) (m n : Machine) → Run p bases m → (step : Step p bases m n) → StepsToEndbr facts step

-- Where control may stand that comes to a place runs at that place, and so do entries and plain points. This holds of every program
-- that is read from an object.
pub record ArrivesAtPlaces (p : Program) : Type 0 where
  pub arrivals : (place : Place) (q : ℕ) → Contains (p.arrive place) q → p.address q ≡ place
  pub entries : (entry : ℕ) → Contains p.entries entry → IsPoint p entry
  pub stands : (entry : ℕ) → Contains p.entries entry → p.address entry ≡ p.place entry
  pub plain : (q : ℕ) → IsPoint p q → p.variant q ≡ 0 → p.address q ≡ p.place q

-- a program that breaks none of the rules keeps what they promise
abbrev pub EntryLaw : Type 0
EntryLaw = (p : Program) (facts : EntryFacts) (options : EntryOptions) → IsProgram p → ArrivesAtPlaces p → IsClean p facts options → KeepsRules p facts options
