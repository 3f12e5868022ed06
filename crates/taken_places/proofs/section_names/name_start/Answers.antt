use Rattle.std.proofs.Common.{◌+◌, ◌*◌, ap, arith}
use Rattle.taken_places.proofs.SectionNames.{header_inside, name_inside, name_is}
use Rattle.taken_places.proofs.section_names.name_start.Goals as goal

pub overflow_add-at : goal.overflow_add-at
overflow_add-at c =
    let f = header_inside c.bytes-bytes.result.now c.args.object.now c.bytes-bytes.ensures.object c.args.sec c.requires in
    omega (arith, f, c.headers_at.ensures, c.bytes-bytes.ensures.short)

pub word_at-requires : goal.word_at-requires
word_at-requires c =
    let f = header_inside c.bytes-bytes.result.now c.args.object.now c.bytes-bytes.ensures.object c.args.sec c.requires in
    omega (arith, f, c.headers_at.ensures)

pub returns-clause-name : goal.returns-clause-name
returns-clause-name c =
    name_is c.bytes-bytes.result.now c.args.object.now c.bytes-bytes.ensures.object c.args.sec c.requires (c.headers_at.result + 64 * c.args.sec) c.word_at.result (ap (λ n. n + 64 * c.args.sec) c.headers_at.ensures) c.word_at.ensures

pub returns-clause-inside : goal.returns-clause-inside
returns-clause-inside c =
    name_inside c.bytes-bytes.result.now c.args.object.now c.bytes-bytes.ensures.object c.args.sec c.requires (c.headers_at.result + 64 * c.args.sec) c.word_at.result (ap (λ n. n + 64 * c.args.sec) c.headers_at.ensures) c.word_at.ensures
