pub mod SosLaws
