use Rattle.std.proofs.Common.{rules, ◌≡◌, of_z, to_z, w64}
use Rattle.fixed_face.proofs.calls.result_of.Goals as goal

pub returns-in-Convert : goal.returns-in-Convert
returns-in-Convert g c =
    let number : to_z w64 (of_z w64 c.in-Convert.number) ≡ c.in-Convert.number = search rules in
    rw c.in-Convert.is (simp number at c.convert.ensures)
