use Rattle.std.proofs.Common.{◌*◌, sym, subst}
use Rattle.tables.specs.declared.refusals.Refusal.{Refusal}
use Rattle.tables.specs.declared.refusals.Refusal.TheVariants.{NoRoom}
use Rattle.control.specs.Packing.{InBytes, room, same}
use Rattle.control.proofs.packing.in_bytes.Goals as goal

pub returns-in-NoRoom : goal.returns-in-NoRoom
returns-in-NoRoom c = subst (λ (reason : Refusal). InBytes reason (NoRoom (4 * c.in-NoRoom.numbers))) (sym c.in-NoRoom.is) (room c.in-NoRoom.numbers)

pub returns-in_default : goal.returns-in_default
returns-in_default c = same c.args.reason c.in_default.not-NoRoom
