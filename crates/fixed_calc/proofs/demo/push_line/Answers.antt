-- Each arm adds the line that the last digit chooses.
use Rattle.std.proofs.Common.{◌≡◌, ◌/◌, ◌%◌, [], ◌∷◌, refl, arith, codes}
use Rattle.fixed_script.specs.declared.names.Policy.TheVariants.{Checked, Saturating, Wrapping, Overflowing}
use Rattle.fixed_script.specs.declared.names.Op.TheVariants.{Add, Sub, Mul, Div, MulAdd, AddProd, Sqrt}
use Rattle.fixed_script.specs.Text.{OneRegister, TwoRegisters, ThreeRegisters}
use Rattle.fixed_calc.proofs.Pushed.{adds_set, adds_applied}
use Rattle.fixed_calc.proofs.demo.push_line.Goals as goal

pub returns-in-0 : goal.returns-in-0
returns-in-0 c = adds_set c.push_set.result c.args.script.now.items c.push_set.new.script.items c.args.draw c.in-0.is c.push_set.ensures

pub returns-in-1 : goal.returns-in-1
returns-in-1 c =
    let t = c.args.draw in
    let a = t / 8 % 8 in
    let b = t / 64 % 8 in
    adds_applied c.push_binary.result c.args.script.now.items c.push_binary.new.script.items t 1 Wrapping Add (TwoRegisters a b) (a ∷ b ∷ []) (codes " wrapping add") c.in-1.is refl refl refl c.push_binary.ensures

pub returns-in-2 : goal.returns-in-2
returns-in-2 c =
    let t = c.args.draw in
    let a = t / 8 % 8 in
    let b = t / 64 % 8 in
    adds_applied c.push_binary-in-2.result c.args.script.now.items c.push_binary-in-2.new.script.items t 2 Overflowing Sub (TwoRegisters a b) (a ∷ b ∷ []) (codes " overflowing sub") c.in-2.is refl refl refl c.push_binary-in-2.ensures

pub returns-in-3 : goal.returns-in-3
returns-in-3 c =
    let t = c.args.draw in
    let a = t / 8 % 8 in
    let b = t / 64 % 8 in
    adds_applied c.push_binary-in-3.result c.args.script.now.items c.push_binary-in-3.new.script.items t 3 Saturating Mul (TwoRegisters a b) (a ∷ b ∷ []) (codes " saturating mul") c.in-3.is refl refl refl c.push_binary-in-3.ensures

pub returns-in-4 : goal.returns-in-4
returns-in-4 c =
    let t = c.args.draw in
    let a = t / 8 % 8 in
    let b = t / 64 % 8 in
    adds_applied c.push_binary-in-4.result c.args.script.now.items c.push_binary-in-4.new.script.items t 4 Checked Div (TwoRegisters a b) (a ∷ b ∷ []) (codes " checked div") c.in-4.is refl refl refl c.push_binary-in-4.ensures

pub returns-in-5 : goal.returns-in-5
returns-in-5 c =
    let t = c.args.draw in
    let d = t % 8 in
    let a = t / 8 % 8 in
    let b = t / 64 % 8 in
    adds_applied c.push_ternary.result c.args.script.now.items c.push_ternary.new.script.items t 5 Wrapping MulAdd (ThreeRegisters a b d) (a ∷ b ∷ d ∷ []) (codes " wrapping mul_add") c.in-5.is refl refl refl c.push_ternary.ensures

pub returns-in-6 : goal.returns-in-6
returns-in-6 c =
    let t = c.args.draw in
    let d = t % 8 in
    let a = t / 8 % 8 in
    let b = t / 64 % 8 in
    adds_applied c.push_ternary-in-6.result c.args.script.now.items c.push_ternary-in-6.new.script.items t 6 Overflowing AddProd (ThreeRegisters d a b) (d ∷ a ∷ b ∷ []) (codes " overflowing add_prod") c.in-6.is refl refl refl c.push_ternary-in-6.ensures

pub returns-in_default : goal.returns-in_default
returns-in_default c =
    let t = c.args.draw in
    let a = t / 8 % 8 in
    let seven : t / 512 % 8 ≡ 7 = omega arith in
    adds_applied c.push_unary.result c.args.script.now.items c.push_unary.new.script.items t 7 Checked Sqrt (OneRegister a) (a ∷ []) (codes " checked sqrt") seven refl refl refl c.push_unary.ensures
