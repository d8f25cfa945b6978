-- The forms of items, in their order.
use Rattle.std.specs.Prelude.{ℕ, zero, suc}
use Rattle.lists.specs.declared.forms.Form.{Form}
use Rattle.lists.specs.declared.forms.Form.TheVariants.{Id, Word, Variant, Arm, Name, Reference}

-- which one it is
abbrev pub number : Form → ℕ
number Id = 0
number Word = 1
number Variant = 2
number Arm = 3
number Name = 4
number Reference = 5

-- the form with a number; past the last, the last
abbrev pub form_at : ℕ → Form
form_at zero = Id
form_at (suc zero) = Word
form_at (suc (suc zero)) = Variant
form_at (suc (suc (suc zero))) = Arm
form_at (suc (suc (suc (suc zero)))) = Name
form_at (suc (suc (suc (suc (suc k))))) = Reference

-- how many words an item of a form takes
abbrev pub stride : Form → ℕ
stride Id = 1
stride Word = 2
stride Variant = 2
stride Arm = 4
stride Name = 2
stride Reference = 1
