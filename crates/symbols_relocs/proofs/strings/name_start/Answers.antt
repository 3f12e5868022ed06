use Rattle.std.proofs.Common.{◌+◌, ◌*◌, ap, arith}
use Rattle.symbols_relocs.proofs.NamePlaces.{field_inside, name_inside, name_is}
use Rattle.symbols_relocs.proofs.strings.name_start.Goals as goal

pub overflow_add-at : goal.overflow_add-at
overflow_add-at c =
    let f = field_inside c.bytes-bytes.result.now c.args.object.now c.bytes-bytes.ensures.object c.args.k c.requires in
    omega (arith, f, c.symbols_offset.ensures, c.bytes-bytes.ensures.short)

pub word_at-requires : goal.word_at-requires
word_at-requires c =
    let f = field_inside c.bytes-bytes.result.now c.args.object.now c.bytes-bytes.ensures.object c.args.k c.requires in
    omega (arith, f, c.symbols_offset.ensures)

pub returns-clause-name : goal.returns-clause-name
returns-clause-name c =
    name_is c.bytes-bytes.result.now c.args.object.now c.bytes-bytes.ensures.object c.args.k c.requires (c.symbols_offset.result + 24 * c.args.k) c.word_at.result (ap (λ n. n + 24 * c.args.k) c.symbols_offset.ensures) c.word_at.ensures

pub returns-clause-inside : goal.returns-clause-inside
returns-clause-inside c =
    name_inside c.bytes-bytes.result.now c.args.object.now c.bytes-bytes.ensures.object c.args.k c.requires (c.symbols_offset.result + 24 * c.args.k) c.word_at.result (ap (λ n. n + 24 * c.args.k) c.symbols_offset.ensures) c.word_at.ensures
