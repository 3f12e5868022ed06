use Rattle.std.proofs.Common.{◌<◌, length, ap, ◌∙◌, arith}
use Rattle.std.proofs.lemmas.List.{length-map}
use Rattle.alternatives.specs.declared.texts.SectionText.{SectionText}
use Rattle.flow_defs.specs.Coded.{Coded}
use Rattle.x86_text.specs.Code.{code_of}
use Rattle.x86_text.specs.declared.placed.PlacedInsn.{PlacedInsn}
use Rattle.site_lists.specs.Listed.{listed}
use Rattle.elf_objects.specs.Elf.{Elf}
use Rattle.site_lists.specs.Sites.{lists_calls, placed_code}
use Rattle.site_lists.proofs.Coded.{insn_at, of_text, one_more}
use Rattle.site_lists.proofs.code_sites.push_text.Goals as goal

pub loop-i-preserved : goal.loop-i-preserved
loop-i-preserved c =
    let o : Coded = c.args.linked.now in
    let t : SectionText = c.args.text.now in
    let p : PlacedInsn = record { off = c.insn-off.result.0; insn = c.insn-off.result.1 } in
    let inside : c.loop-i.i < length (code_of t.text) = omega (arith, c.loop-i-test.true, c.count-i-end.ensures.count) in
    let same = length-map (code_of t.text) (of_text t) in
    one_more c.args.options o (placed_code t) c.loop-i.i (of_text t p) (of_text t p) (listed c.args.lists.now) (listed c.loop-i.lists) (listed c.push_site.new.lists)
    (omega (arith, inside, same)) (insn_at t c.loop-i.i p inside c.insn-off.ensures.listed) c.loop-i.invariant (c.in_ok-push_site.ensures c.args.options (c.lists_calls-listed_calls.ensures ∙ ap (λ (e : Elf). lists_calls c.args.options e t.sec) c.object.ensures))
