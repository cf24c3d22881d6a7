pub mod NamingLaws
