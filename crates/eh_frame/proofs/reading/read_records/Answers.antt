use Rattle.std.proofs.Common.{◌≡◌, ℕ, ◌+◌, ◌-◌, ◌<◌, ◌≤◌, List, [], ◌∷◌, length, take, drop, inr, sym, ◌∙◌, ap, subst, arith}
use Rattle.std.proofs.lemmas.List.{length-drop, take_rest}
use Rattle.elf_objects.specs.declared.symbol.Reloc.{Reloc}
use Rattle.elf_objects.specs.Contents.{relocs_at, section_at}
use Rattle.elf_objects.specs.Elf.{Elf}
use Rattle.eh_frame.specs.declared.fault.EhFault.TheVariants.{BadOp, BadReloc}
use Rattle.eh_frame.specs.declared.reading.Found.{Found}
use Rattle.eh_frame.specs.declared.rule.PlacedRule.{PlacedRule}
use Rattle.eh_frame.specs.Cursor.{AreFrom}
use Rattle.eh_frame.specs.Faults.{Refuses, RecordFault, StopsAt}
use Rattle.eh_frame.specs.Followed.{IsListFault}
use Rattle.eh_frame.specs.Faults as faults
use Rattle.eh_frame.specs.Found.{IsFound}
use Rattle.eh_frame.specs.Records.{terminator}
use Rattle.eh_frame.proofs.RecordsRead.{RecordsRead, all_read, fault_first, left_over, left_relocs, none_read, one_read}
use Rattle.eh_frame.proofs.reading.read_records.Goals as goal

pub records-init : goal.records-init
records-init c = record {
  read = subst (λ (rs : List PlacedRule). RecordsRead c.args.object.now (relocs_at c.args.object.now c.args.section) c.args.relocs.now c.args.body.now 24 0 0 rs) (sym c.new-rules.ensures.items)
      (none_read c.args.object.now (relocs_at c.args.object.now c.args.section) c.args.relocs.now c.args.body.now c.requires.cie c.requires.behind);
  few = omega arith;
}

pub find_entry-requires-clause-from : goal.find_entry-requires-clause-from
find_entry-requires-clause-from c =
    subst (λ (rs : List Reloc). AreFrom (relocs_at c.args.object.now c.args.section) c.records.at rs) (sym (take_rest c.args.relocs.now c.records.next))
    (left_relocs c.args.object.now (relocs_at c.args.object.now c.args.section) c.args.relocs.now c.args.body.now c.records.at c.records.next c.records.least c.records.rules.items c.records.invariant.read c.requires.permutation)

pub find_entry-requires-clause-first : goal.find_entry-requires-clause-first
find_entry-requires-clause-first c = λ fault wrong.
    fault_first c.args.object.now (relocs_at c.args.object.now c.args.section) c.args.relocs.now c.args.body.now c.records.at c.records.next c.records.least c.records.rules.items c.records.invariant.read fault c.requires.has c.requires.none
    (subst (λ (bs : List ℕ). RecordFault c.args.object.now (relocs_at c.args.object.now c.args.section) c.records.at c.records.least bs fault) (take_rest c.args.body.now c.records.at) wrong)

-- the entry as it stands among all bytes and relocations
found_there : (object : Elf) (relocs : List Reloc) (at least : ℕ) (body : List ℕ) (sorted : List Reloc) (next : ℕ) (found : Found) → IsFound object relocs at least (take (length body - at) (drop at body)) (take (length sorted - next) (drop next sorted)) found → IsFound object relocs at least (drop at body) (drop next sorted) found
found_there object relocs at least body sorted next found is =
    subst (λ (bs : List ℕ). IsFound object relocs at least bs (drop next sorted) found) (take_rest body at)
    (subst (λ (rs : List Reloc). IsFound object relocs at least (take (length body - at) (drop at body)) rs found) (take_rest sorted next) is)

pub returns-in-Err-Bad-clause-err : goal.returns-in-Err-Bad-clause-err
returns-in-Err-Bad-clause-err c =
    let is = found_there c.args.object.now (relocs_at c.args.object.now c.args.section) c.records.at c.records.least c.args.body.now c.args.relocs.now c.records.next c.in_ok-found.found c.in_ok-found.ensures.ok in
    let stops : StopsAt c.in_ok-found.found.size c.in_ok-found.found.spelled.now c.in-Err-Bad.stop = subst (IsListFault c.in_ok-found.found.size c.in_ok-found.found.spelled.now) c.in-Err-Bad.field-0-is c.in-Err-Bad.ensures.err in
    let refuses : Refuses c.args.object.now (BadOp (c.records.at + 17 + c.in-Err-Bad.stop)) =
    inr (fault_first c.args.object.now (relocs_at c.args.object.now c.args.section) c.args.relocs.now c.args.body.now c.records.at c.records.next c.records.least c.records.rules.items c.records.invariant.read (BadOp (c.records.at + 17 + c.in-Err-Bad.stop)) c.requires.has c.requires.none
    (faults.instruction c.in_ok-found.found.size c.in_ok-found.found.spelled.now _ c.in_ok-found.found.sec (section_at c.args.object.now c.in_ok-found.found.sec) c.in-Err-Bad.stop is.entry is.names is.order stops)) in
    rw c.in-Err-Bad.field-0-is refuses

pub records-preserved : goal.records-preserved
records-preserved c =
    let is = found_there c.args.object.now (relocs_at c.args.object.now c.args.section) c.records.at c.records.least c.args.body.now c.args.relocs.now c.records.next c.in_ok-found.found c.in_ok-found.ensures.ok in
    record {
      read = subst (λ (n : ℕ). RecordsRead c.args.object.now (relocs_at c.args.object.now c.args.section) c.args.relocs.now c.args.body.now (c.records.at + (17 + length c.in_ok-found.found.spelled.now)) (c.records.next + 1) (n + 1) c.list_rules.new.rules.items) (sym c.from-least.ensures)
          (one_read c.args.object.now (relocs_at c.args.object.now c.args.section) c.args.relocs.now c.args.body.now c.records.at c.records.next c.records.least c.records.rules.items c.records.invariant.read
          c.in_ok-found.found c.list_rules.new.rules.items is c.in-Ok.ensures.ok c.requires.permutation);
      few = (let one = is.one in let left = length-drop c.records.next c.args.relocs.now in omega arith);
    }

pub returns-then-next-relocs-clause-err : goal.returns-then-next-relocs-clause-err
returns-then-next-relocs-clause-err c =
    let end : drop c.records.at c.args.body.now ≡ terminator = sym (take_rest c.args.body.now c.records.at) ∙ c.is_terminator.ensures.0 c.records-test.false in
    inr (fault_first c.args.object.now (relocs_at c.args.object.now c.args.section) c.args.relocs.now c.args.body.now c.records.at c.records.next c.records.least c.records.rules.items c.records.invariant.read (BadReloc c.records.at) c.requires.has c.requires.none
    (left_over c.args.object.now (relocs_at c.args.object.now c.args.section) c.args.relocs.now c.args.body.now c.records.at c.records.next c.records.least c.records.rules.items c.records.invariant.read c.requires.permutation end c.if-next-relocs.true))

pub returns-clause-ok : goal.returns-clause-ok
returns-clause-ok c =
    let end : drop c.records.at c.args.body.now ≡ terminator = sym (take_rest c.args.body.now c.records.at) ∙ c.is_terminator.ensures.0 c.records-test.false in
    all_read c.args.object.now (relocs_at c.args.object.now c.args.section) c.args.relocs.now c.args.body.now c.records.at c.records.next c.records.least c.records.rules.items c.records.invariant.read c.requires.permutation end c.if-next-relocs.false
