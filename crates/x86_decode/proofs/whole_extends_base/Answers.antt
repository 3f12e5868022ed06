use Rattle.x86_decode.proofs.Extends.{whole_extends, whole_stands}
use Rattle.x86_decode.proofs.whole_extends_base.Goals as goal

pub returns-clause-spelled : goal.returns-clause-spelled
returns-clause-spelled c = whole_extends

pub returns-clause-stands : goal.returns-clause-stands
returns-clause-stands c = whole_stands
