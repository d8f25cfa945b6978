use Rattle.pack.specs.Lists.{list_len}
use Rattle.lists.specs.Peaks.{weight}
use Rattle.lists.proofs.tables.Tables.weight.Goals as goal

pub returns-in-Id : goal.returns-in-Id
returns-in-Id c = unfold weight list_len in rw c.in-Id.is c.word.ensures

pub returns-in-Word : goal.returns-in-Word
returns-in-Word c = unfold weight list_len in rw c.in-Word.is c.word-in-Word.ensures

pub returns-in-Variant : goal.returns-in-Variant
returns-in-Variant c = unfold weight list_len in rw c.in-Variant.is c.variant_weight.ensures

pub returns-in-Arm : goal.returns-in-Arm
returns-in-Arm c = unfold weight list_len in rw c.in-Arm.is c.arm_weight.ensures

pub returns-in-Name : goal.returns-in-Name
returns-in-Name c = unfold weight in rw c.in-Name.is (c.requires.1.names_earlier.each _ c.requires.0)

pub returns-in-Reference : goal.returns-in-Reference
returns-in-Reference c = unfold weight list_len in rw c.in-Reference.is c.rise_weight.ensures
