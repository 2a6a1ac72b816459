-- The kinds in a reply and their numbers, document 01, "Reply fields".
use Rattle.std.specs.Prelude.{ℕ, List, [], ◌∷◌, get_or}
use Rattle.codes.specs.declared.FaultCode.{FaultCode}
use Rattle.codes.specs.declared.HwType.{HwType}
use Rattle.codes.specs.declared.QmlHw.{QmlHw}

-- "Fault bytes 0 to 29 have names, the rest are Unknown."
abbrev pub faults : List FaultCode
faults =
    FaultCode.None
    ∷ FaultCode.OverVoltage
    ∷ FaultCode.UnderVoltage
    ∷ FaultCode.Drv
    ∷ FaultCode.AbsOverCurrent
    ∷ FaultCode.OverTempFet
    ∷ FaultCode.OverTempMotor
    ∷ FaultCode.GateDriverOverVoltage
    ∷ FaultCode.GateDriverUnderVoltage
    ∷ FaultCode.McuUnderVoltage
    ∷ FaultCode.BootingFromWatchdogReset
    ∷ FaultCode.EncoderSpi
    ∷ FaultCode.EncoderSinCosBelowMinAmplitude
    ∷ FaultCode.EncoderSinCosAboveMaxAmplitude
    ∷ FaultCode.FlashCorruption
    ∷ FaultCode.HighOffsetCurrentSensor1
    ∷ FaultCode.HighOffsetCurrentSensor2
    ∷ FaultCode.HighOffsetCurrentSensor3
    ∷ FaultCode.UnbalancedCurrents
    ∷ FaultCode.Brk
    ∷ FaultCode.ResolverLot
    ∷ FaultCode.ResolverDos
    ∷ FaultCode.ResolverLos
    ∷ FaultCode.FlashCorruptionAppCfg
    ∷ FaultCode.FlashCorruptionMcCfg
    ∷ FaultCode.EncoderNoMagnet
    ∷ FaultCode.EncoderMagnetTooStrong
    ∷ FaultCode.PhaseFilter
    ∷ FaultCode.EncoderFault
    ∷ FaultCode.LvOutputFault
    ∷ []

unfoldable pub fault_of : ℕ → FaultCode
fault_of n = get_or faults n FaultCode.Unknown

-- each one's number: its byte, and 255 for no name
abbrev pub fault_number : FaultCode → ℕ
fault_number FaultCode.None = 0
fault_number FaultCode.OverVoltage = 1
fault_number FaultCode.UnderVoltage = 2
fault_number FaultCode.Drv = 3
fault_number FaultCode.AbsOverCurrent = 4
fault_number FaultCode.OverTempFet = 5
fault_number FaultCode.OverTempMotor = 6
fault_number FaultCode.GateDriverOverVoltage = 7
fault_number FaultCode.GateDriverUnderVoltage = 8
fault_number FaultCode.McuUnderVoltage = 9
fault_number FaultCode.BootingFromWatchdogReset = 10
fault_number FaultCode.EncoderSpi = 11
fault_number FaultCode.EncoderSinCosBelowMinAmplitude = 12
fault_number FaultCode.EncoderSinCosAboveMaxAmplitude = 13
fault_number FaultCode.FlashCorruption = 14
fault_number FaultCode.HighOffsetCurrentSensor1 = 15
fault_number FaultCode.HighOffsetCurrentSensor2 = 16
fault_number FaultCode.HighOffsetCurrentSensor3 = 17
fault_number FaultCode.UnbalancedCurrents = 18
fault_number FaultCode.Brk = 19
fault_number FaultCode.ResolverLot = 20
fault_number FaultCode.ResolverDos = 21
fault_number FaultCode.ResolverLos = 22
fault_number FaultCode.FlashCorruptionAppCfg = 23
fault_number FaultCode.FlashCorruptionMcCfg = 24
fault_number FaultCode.EncoderNoMagnet = 25
fault_number FaultCode.EncoderMagnetTooStrong = 26
fault_number FaultCode.PhaseFilter = 27
fault_number FaultCode.EncoderFault = 28
fault_number FaultCode.LvOutputFault = 29
fault_number FaultCode.Unknown = 255

-- "Hardware kinds 0 to 2 are named,"
unfoldable pub hw_type_of : ℕ → HwType
hw_type_of n = get_or (HwType.Vesc ∷ HwType.VescBms ∷ HwType.CustomModule ∷ []) n HwType.Unknown

-- each one's number: its byte, and 255 for no name
abbrev pub hw_type_number : HwType → ℕ
hw_type_number HwType.Vesc = 0
hw_type_number HwType.VescBms = 1
hw_type_number HwType.CustomModule = 2
hw_type_number HwType.Unknown = 255

-- "likewise qml_hw."
unfoldable pub qml_hw_of : ℕ → QmlHw
qml_hw_of n = get_or (QmlHw.None ∷ QmlHw.Embedded ∷ QmlHw.Fullscreen ∷ []) n QmlHw.Unknown

-- each one's number: its byte, and 255 for no name
abbrev pub qml_hw_number : QmlHw → ℕ
qml_hw_number QmlHw.None = 0
qml_hw_number QmlHw.Embedded = 1
qml_hw_number QmlHw.Fullscreen = 2
qml_hw_number QmlHw.Unknown = 255
