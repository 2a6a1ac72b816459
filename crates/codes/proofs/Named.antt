-- The kinds and their numbers: a byte below the number of names is its kind's number, any other is Unknown, 255; and a number tells its kind.
use mathlib.Core.Path.{◌≡◌, refl, sym, ◌∙◌}
use mathlib.Core.Bool.{Bool, true, ◌&&◌}
use mathlib.Core.List.{List, [], ◌∷◌}
use Prim.Native.Nat.{ℕ, zero, suc, ◌+◌, ◌≤◌, ◌<◌}
use native.Mathlib.Omega.{arith}
use native.Mathlib.Nat.{add-zero, zero-add, add-suc, suc-add}
use lib.Dec.{T, eqb, eqb→eq}
use lib.Ieee.Fits.{and_l, and_r}
use lib.ListN.{length, get_or, get_or-eq_default}
use Rattle.codes.specs.declared.FaultCode.TheVariants as FaultCode
use Rattle.codes.specs.declared.HwType.TheVariants as HwType
use Rattle.codes.specs.declared.QmlHw.TheVariants as QmlHw
use Rattle.codes.specs.Codes.{faults, fault_of, fault_number, hw_type_of, hw_type_number, qml_hw_of, qml_hw_number}

-- ---- any list of names
module _ {A : Type 0} where
  -- whether the names are numbered one after the other, from k on
  abbrev counted : (A → ℕ) → ℕ → List A → Bool
  counted number k [] = true
  counted number k (name ∷ names) = eqb (number name) k && counted number (suc k) names

  place : (number : A → ℕ) (names : List A) (unknown : A) (k n : ℕ) → T (counted number k names) → n < length names
      → number (get_or names n unknown) ≡ k + n
  place number [] unknown k n t h = absurd (omega arith)
  place number (name ∷ names) unknown k zero t h = eqb→eq (number name) k (and_l (eqb (number name) k) _ t) ∙ sym (add-zero k)
  place number (name ∷ names) unknown k (suc n) t h =
      place number names unknown (suc k) n (and_r (eqb (number name) k) _ t) (omega arith) ∙ suc-add k n ∙ sym (add-suc k n)

  -- a reading of bytes as kinds, so many of them named, and the kinds' numbers
  pub record Numbered (count : ℕ) (of : ℕ → A) (number : A → ℕ) (unknown : A) : Type 0 where
    -- a named byte is its kind's number
    pub named : (n : ℕ) → n < count → number (of n) ≡ n
    -- any other is unknown
    pub unnamed : (n : ℕ) → count ≤ n → of n ≡ unknown
    -- and a kind's number is read as the kind
    pub back : (kind : A) → of (number kind) ≡ kind

  by_names : (number : A → ℕ) (names : List A) (unknown : A) → T (counted number 0 names) → ((kind : A) → get_or names (number kind) unknown ≡ kind)
      → Numbered (length names) (λ n. get_or names n unknown) number unknown
  by_names number names unknown t back =
      record {
        named = λ n h. place number names unknown 0 n t h ∙ zero-add n;
        unnamed = λ n h. get_or-eq_default names unknown h;
        back = back;
      }

-- ---- faults
pub fault-numbered : Numbered 30 fault_of fault_number FaultCode.Unknown
unfolding fault_of
fault-numbered =
    by_names fault_number faults FaultCode.Unknown tt (elim [
      | FaultCode.None ↦ refl
      | FaultCode.OverVoltage ↦ refl
      | FaultCode.UnderVoltage ↦ refl
      | FaultCode.Drv ↦ refl
      | FaultCode.AbsOverCurrent ↦ refl
      | FaultCode.OverTempFet ↦ refl
      | FaultCode.OverTempMotor ↦ refl
      | FaultCode.GateDriverOverVoltage ↦ refl
      | FaultCode.GateDriverUnderVoltage ↦ refl
      | FaultCode.McuUnderVoltage ↦ refl
      | FaultCode.BootingFromWatchdogReset ↦ refl
      | FaultCode.EncoderSpi ↦ refl
      | FaultCode.EncoderSinCosBelowMinAmplitude ↦ refl
      | FaultCode.EncoderSinCosAboveMaxAmplitude ↦ refl
      | FaultCode.FlashCorruption ↦ refl
      | FaultCode.HighOffsetCurrentSensor1 ↦ refl
      | FaultCode.HighOffsetCurrentSensor2 ↦ refl
      | FaultCode.HighOffsetCurrentSensor3 ↦ refl
      | FaultCode.UnbalancedCurrents ↦ refl
      | FaultCode.Brk ↦ refl
      | FaultCode.ResolverLot ↦ refl
      | FaultCode.ResolverDos ↦ refl
      | FaultCode.ResolverLos ↦ refl
      | FaultCode.FlashCorruptionAppCfg ↦ refl
      | FaultCode.FlashCorruptionMcCfg ↦ refl
      | FaultCode.EncoderNoMagnet ↦ refl
      | FaultCode.EncoderMagnetTooStrong ↦ refl
      | FaultCode.PhaseFilter ↦ refl
      | FaultCode.EncoderFault ↦ refl
      | FaultCode.LvOutputFault ↦ refl
      | FaultCode.Unknown ↦ refl
    ])

-- ---- hardware
pub hw-type-numbered : Numbered 3 hw_type_of hw_type_number HwType.Unknown
unfolding hw_type_of
hw-type-numbered =
    by_names hw_type_number (HwType.Vesc ∷ HwType.VescBms ∷ HwType.CustomModule ∷ []) HwType.Unknown tt
    (elim [ HwType.Vesc ↦ refl | HwType.VescBms ↦ refl | HwType.CustomModule ↦ refl | HwType.Unknown ↦ refl ])

-- ---- QML interfaces
pub qml-hw-numbered : Numbered 3 qml_hw_of qml_hw_number QmlHw.Unknown
unfolding qml_hw_of
qml-hw-numbered =
    by_names qml_hw_number (QmlHw.None ∷ QmlHw.Embedded ∷ QmlHw.Fullscreen ∷ []) QmlHw.Unknown tt
    (elim [ QmlHw.None ↦ refl | QmlHw.Embedded ↦ refl | QmlHw.Fullscreen ↦ refl | QmlHw.Unknown ↦ refl ])
