-- When the machine finds no cause in a row.
use Rattle.std.proofs.Common.{◌≡◌, Bool, Some, None, if◌then◌else◌, refl, ap}
use Rattle.fixed_word.specs.Format.{fits}
use Rattle.fixed_machine.specs.Types.{Checked, Strict, Sqrt}
use Rattle.fixed_machine.specs.declared.cause.Cause.TheVariants.{Overflow}
use Rattle.fixed_machine.specs.Machine.{row_cause}
use Rattle.fixed_machine.proofs.Causes.{no_overflow}
use Rattle.fixed_machine.proofs.Fits.{in_range, fit_true}
use Rattle.fixed_agree.specs.AgreementLaws.{NoCauseExactly}

pub no_cause_exactly : NoCauseExactly
unfolding row_cause
no_cause_exactly signed n k Checked op None = (λ e. tt, λ h. refl)
no_cause_exactly signed n k Checked op (Some x) = (λ e. tt, λ h. refl)
no_cause_exactly signed n k Strict Sqrt None = (λ e. cc, λ h. absurd h)
no_cause_exactly signed n k Strict op None = (λ e. cc, λ h. absurd h)
no_cause_exactly signed n k Strict op (Some x) = (λ e. in_range signed n x (no_overflow (fits signed n x) k e), λ h. ap (λ (b : Bool). if b then None else Some (Overflow k)) (fit_true signed n x h))
no_cause_exactly signed n k policy Sqrt None = (λ e. cc, λ h. cc)
no_cause_exactly signed n k policy op None = (λ e. cc, λ h. cc)
no_cause_exactly signed n k policy op (Some x) = (λ e. refl, λ h. refl)
