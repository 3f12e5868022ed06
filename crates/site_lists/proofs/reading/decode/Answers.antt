use Rattle.std.proofs.Common.{ℕ, zero, suc, ◌<◌, inl, inr, arith}
use Rattle.std.proofs.lemmas.Result.{err_from_is_err_and}
use Rattle.elf_objects.specs.Elf.{Elf}
use Rattle.site_lists.specs.declared.fault.SitesFault.{SitesFault}
use Rattle.site_lists.specs.Faults.{IsList, in_list, no_lists, Refuses, RefusesList}
use Rattle.site_lists.proofs.Excluded.{fault_excludes}
use Rattle.site_lists.proofs.reading.decode.Goals as goal

-- a list is refused where those before it hold places
refuses : (object : Elf) (which : ℕ) (fault : SitesFault) → which < 3 → ((k : ℕ) → k < which → IsList object k) → RefusesList object which fault → Refuses object fault
refuses object which fault inside before (inl memory) = inl memory
refuses object which fault inside before (inr here) = inr (in_list which inside before here)

-- the lists before one
before_one : (object : Elf) → IsList object 0 → (k : ℕ) → k < 1 → IsList object k
before_one object zeroth zero h = zeroth
before_one object zeroth (suc k) h = absurd (omega arith)

before_two : (object : Elf) → IsList object 0 → IsList object 1 → (k : ℕ) → k < 2 → IsList object k
before_two object zeroth first zero h = zeroth
before_two object zeroth first (suc zero) h = first
before_two object zeroth first (suc (suc k)) h = absurd (omega arith)

-- no list is there
pub returns-then-not-has_lists-clause-err : goal.returns-then-not-has_lists-clause-err
returns-then-not-has_lists-clause-err c = inr (no_lists (c.has_lists.ensures.none c.if-not-has_lists.true))

pub returns-then-not-has_lists-clause-only : goal.returns-then-not-has_lists-clause-only
returns-then-not-has_lists-clause-only c = λ lists holds. absurd (fault_excludes c.args.object.now lists _ (no_lists (c.has_lists.ensures.none c.if-not-has_lists.true)) holds)

pub returns-in_err-retpoline-clause-err : goal.returns-in_err-retpoline-clause-err
returns-in_err-retpoline-clause-err c =
    let p = err_from_is_err_and c.from_residual.result c.from_residual.ensures.1 in
    rw (p.1, p.2) (refuses c.args.object.now 0 c.in_err-retpoline.field-0.0 (omega arith) (λ k h. absurd (omega arith)) c.in_err-retpoline.ensures.err)

pub returns-in_err-returns-clause-err : goal.returns-in_err-returns-clause-err
returns-in_err-returns-clause-err c =
    let p = err_from_is_err_and c.from_residual-in_err-returns.result c.from_residual-in_err-returns.ensures.1 in
    rw (p.1, p.2)
    (refuses c.args.object.now 1 c.in_err-returns.field-0.0 (omega arith) (before_one c.args.object.now (record { places = _; list = c.in_ok-retpoline.ensures.ok })) c.in_err-returns.ensures.err)

pub returns-in_err-calls-clause-err : goal.returns-in_err-calls-clause-err
returns-in_err-calls-clause-err c =
    let p = err_from_is_err_and c.from_residual-in_err-calls.result c.from_residual-in_err-calls.ensures.1 in
    rw (p.1, p.2)
    (refuses c.args.object.now 2 c.in_err-calls.field-0.0 (omega arith)
    (before_two c.args.object.now (record { places = _; list = c.in_ok-retpoline.ensures.ok }) (record { places = _; list = c.in_ok-returns.ensures.ok }))
    c.in_err-calls.ensures.err)

pub returns-clause-ok : goal.returns-clause-ok
returns-clause-ok c = record {
  some = c.has_lists.ensures.some c.if-not-has_lists.false;
  retpoline = c.in_ok-retpoline.ensures.ok;
  returns = c.in_ok-returns.ensures.ok;
  calls = c.in_ok-calls.ensures.ok;
}
