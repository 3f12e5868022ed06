use Rattle.std.proofs.Common.{◌≡◌, ◌∙◌, length, append_assoc}
use Rattle.eh_frame.specs.Records.{entry_bytes}
use Rattle.eh_frame.proofs.writing.push_entry.Goals as goal

pub returns : goal.returns
unfolding entry_bytes
returns c =
    let back : c.len.result ≡ length c.args.body.now.items = c.len.ensures ∙ c.args.body.now.ok.0 in
    rw (c.in_ok-extend_from_slice-2.ensures.items, c.in_ok-extend_from_slice.ensures.items, c.write_u32-3.ensures, c.write_u32-2.ensures, c.write_u32.ensures, back)
    (append_assoc c.args.body.now.items _ c.args.spelled.now)
