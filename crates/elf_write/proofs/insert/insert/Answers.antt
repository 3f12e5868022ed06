use Rattle.std.proofs.Common.{◌≡◌, ℕ, ◌+◌, ◌*◌, length, sym, ap, subst, ◌∙◌, arith}
use Rattle.elf_write.specs.declared.plan.Plan.{Plan}
use Rattle.elf_write.specs.SymbolLayout.{headers_place, tables}
use Rattle.elf_write.proofs.Sizes.{le-end_of}
use Rattle.elf_write.specs.Room.{HasRoomIn}
use Rattle.elf_write.proofs.SymbolFacts.{inserted-is_object, parts, parts_at, same_bytes}
use Rattle.elf_write.proofs.insert.insert.Goals as goal

pub unreachable-requires : goal.unreachable-requires
unreachable-requires c =
    let p = parts c.args.bytes.now c.args.object.now c.args.secs.now c.requires.file (λ k. (c.type_inv.bytes k).fits) c.requires.some c.requires.can in
    c.in_default.not-Some p.0 (c.symbol_table.ensures ∙ p.1.table)

pub place-plan-requires-clause-parts : goal.place-plan-requires-clause-parts
place-plan-requires-clause-parts c =
    parts_at c.args.bytes.now c.args.object.now c.args.secs.now c.in-Some.table c.requires.file (λ k. (c.type_inv.bytes k).fits) c.requires.some c.requires.can (sym c.symbol_table.ensures ∙ c.in-Some.is)

pub join-requires : goal.join-requires
join-requires c = record {
  file = same_bytes c.args.bytes.now c.args.object.now c.requires.file;
  parts = parts_at c.args.bytes.now c.args.object.now c.args.secs.now c.in-Some.table c.requires.file (λ k. (c.type_inv.bytes k).fits) c.requires.some c.requires.can (sym c.symbol_table.ensures ∙ c.in-Some.is);
  found = c.index_table-numbers.ensures;
  place = ap (λ (q : Plan). q.headers_at) c.place-plan.ensures;
}

pub make_changes-requires : goal.make_changes-requires
make_changes-requires c =
    let o = c.args.object.now in
    let secs = c.args.secs.now in
    let p = parts_at c.args.bytes.now o secs c.in-Some.table c.requires.file (λ k. (c.type_inv.bytes k).fits) c.requires.some c.requires.can (sym c.symbol_table.ensures ∙ c.in-Some.is) in
    let n : ℕ = headers_place o secs + 64 * length o.sections in
    let long : n ≡ length c.deref_mut.result.now = sym (ap length (c.deref_mut.ensures.value ∙ c.in_ok-out.ensures) ∙ p.end) in
    record {
      file = omega (arith, p.within, p.file, le-end_of (length o.bytes) (tables o secs));
      room = λ i h. subst (λ (m : ℕ). HasRoomIn o c.place-plan.result m i) long
          (subst (λ (q : Plan). HasRoomIn o q n i) (sym c.place-plan.ensures) (p.room i h));
    }

pub returns-clause-object : goal.returns-clause-object
returns-clause-object c =
    inserted-is_object c.args.bytes.now c.args.object.now c.args.secs.now c.requires.file (λ k. (c.type_inv.bytes k).fits) c.requires.some c.requires.can

pub returns-in_err-out-clause-object : goal.returns-in_err-out-clause-object
returns-in_err-out-clause-object c =
    inserted-is_object c.args.bytes.now c.args.object.now c.args.secs.now c.requires.file (λ k. (c.type_inv.bytes k).fits) c.requires.some c.requires.can
