pub mod LocatorLaws
