use Rattle.std.proofs.Common.{◌≡◌, ◌<◌, List, Some, length, sym, ap, ◌∙◌, subst}
use Rattle.std.specs.Prelude.{slice_get}
use Rattle.std.proofs.lemmas.Option.{get_or_from_slice_get, slice_get_within}
use Rattle.operation_defs.specs.declared.insn.Insn.{Insn}
use Rattle.alternatives.specs.declared.point.Point.{Point}
use Rattle.alternatives.specs.Numbers.{IsNumberOf}
use Rattle.flow_defs.specs.Arrival.{decoded_insn}
use Rattle.flow_defs.specs.Code.{no_point, point_at, points_of_object}
use Rattle.flow_defs.specs.Coded.{Coded}
use Rattle.entry_rules.proofs.Behind.{next, none_behind, one_behind}
use Rattle.entry_rules.proofs.Numbered.{decoded_at, looked_up}
use Rattle.entry_rules.proofs.bare.is_before_int3.Goals as goal

pub returns-in-Some : goal.returns-in-Some
returns-in-Some c = λ lists.
    let o : Coded = c.args.linked.now in
    let points : List Point = c.sites-sites.result.now.points in
    let insns : List Insn = c.sites-sites.result.now.insns in
    let inside : c.args.n < length points = subst (λ (ps : List Point). c.args.n < length ps) (sym c.sites-sites.ensures.points) c.requires in
    let here : IsNumberOf (points_of_object o) (next o lists c.args.n) c.number_behind.result = looked_up o points insns c.sites-sites.ensures.points c.sites-sites.ensures.insns c.args.n c.number_behind.result inside c.number_behind.ensures in
    let at : slice_get (points_of_object o) c.in-Some.behind ≡ Some (next o lists c.args.n) = subst (IsNumberOf (points_of_object o) (next o lists c.args.n)) c.in-Some.is here in
    let within : c.in-Some.behind < length (points_of_object o) = slice_get_within (points_of_object o) c.in-Some.behind (next o lists c.args.n) at in
    let listed : c.in-Some.behind < length points = subst (λ (ps : List Point). c.in-Some.behind < length ps) (sym c.sites-sites.ensures.points) within in
    let own : decoded_insn o (point_at o c.in-Some.behind) ≡ c.insn_of.result = decoded_at o points insns c.sites-sites.ensures.points c.sites-sites.ensures.insns c.in-Some.behind c.insn_of.result listed c.insn_of.ensures in
    c.is_int3.ensures
    ∙ one_behind o lists c.args.n c.in-Some.behind c.insn_of.result.op within (get_or_from_slice_get (points_of_object o) c.in-Some.behind (next o lists c.args.n) no_point at) (ap (λ (i : Insn). i.op) own)

pub returns-in-None : goal.returns-in-None
returns-in-None c = λ lists.
    let o : Coded = c.args.linked.now in
    let points : List Point = c.sites-sites.result.now.points in
    let inside : c.args.n < length points = subst (λ (ps : List Point). c.args.n < length ps) (sym c.sites-sites.ensures.points) c.requires in
    let here : IsNumberOf (points_of_object o) (next o lists c.args.n) c.number_behind.result =
    looked_up o points c.sites-sites.result.now.insns c.sites-sites.ensures.points c.sites-sites.ensures.insns c.args.n c.number_behind.result inside c.number_behind.ensures in
    none_behind o lists c.args.n (subst (IsNumberOf (points_of_object o) (next o lists c.args.n)) c.in-None.is here)
