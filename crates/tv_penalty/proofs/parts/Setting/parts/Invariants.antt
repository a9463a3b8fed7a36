use Rattle.std.proofs.Common.{◌≡◌, ◌≤◌, ◌<◌, ◌^◌, map, take, drop}
use Rattle.tv_penalty.specs.declared.fault.PenaltyFault.{PenaltyFault}
use Rattle.tv_penalty.specs.Faults.{AreSound, IsFirstFault}
use Rattle.tv_penalty.specs.Smoothings.{part_of}
use Rattle.tv_penalty.specs.Views.{part_seen, setting_seen}
use Rattle.tv_penalty.proofs.parts.Setting.parts.Given as goal

abbrev pub invariant-loop-number : goal.invariant-loop-number
invariant-loop-number l = record {
  seen : map part_seen l.parts.items ≡ map (part_of l.self.penalised l.self.frame.now l.self.rows.now) (take l.number l.smooths);
  sound : AreSound (setting_seen l.self) l.number l.columns (drop l.number l.smooths) → AreSound (setting_seen l.self) 0 l.width l.smooths;
  faults : (e : PenaltyFault) → IsFirstFault (setting_seen l.self) l.number l.columns (drop l.number l.smooths) e → IsFirstFault (setting_seen l.self) 0 l.width l.smooths e;
  few : l.columns < 2 ^ 63;
  passed : l.number ≤ 128;
  wide : l.number ≤ l.columns;
}
