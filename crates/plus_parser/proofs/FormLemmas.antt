pub mod Nest
pub mod FormLevels
pub mod BothLaws
pub mod ConditionLaws
pub mod LeafLaws
pub mod EffectLaws
